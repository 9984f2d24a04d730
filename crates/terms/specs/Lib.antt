-- The words of the contracts: numbers of two limbs, and what is added. Assumes nothing.
pub mod Terms
