-- Definitions that only serve the proofs between our own functions: no reader needs them to believe a public call.
pub mod Between
pub mod Folding
pub mod Pair
pub mod Room
pub mod Laws
