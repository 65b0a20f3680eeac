-- Definitions that only serve the proofs between our own functions: no reader needs them to believe a public call.
pub mod Listing
pub mod ListTests
