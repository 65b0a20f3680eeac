-- Definitions that only serve the proofs between our own functions: no reader needs them to believe a public call.
pub mod Tallies
pub mod Fewest
pub mod BetterOf
pub mod SameBits
