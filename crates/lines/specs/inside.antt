-- Definitions that only serve the proofs between our own functions: no reader needs them to believe a public call.
pub mod FieldsLeft
pub mod Reading
