-- First: what is 1 and then zeros, in as many places as n qubits have.
pub mod First
