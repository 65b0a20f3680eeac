-- Definitions that only serve the proofs between our own functions: no reader needs them to believe the public call.
pub mod Filling
