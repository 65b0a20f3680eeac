pub mod Letters
pub mod ZeroChain
pub mod ZerosWeighed
pub mod Line
pub mod Table
