mod Zeros
mod NoChain
mod TableLaws
pub mod ZerosWeighed
