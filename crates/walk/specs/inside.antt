-- Definitions that only serve the proofs between our own functions: no reader needs them to believe a public call.
pub mod Found
pub mod Modulus
pub mod Weights
pub mod Arithmetic
pub mod Powers
pub mod Waits
pub mod Instructions
