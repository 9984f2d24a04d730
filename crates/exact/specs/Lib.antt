-- The words of the contracts: signed counts, the window, and what the steps hand on. Assumes nothing.
pub mod Signed
pub mod Window
pub mod Steps
