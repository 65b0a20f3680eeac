pub mod Kinds
pub mod KindNumbers
pub mod Unknown
pub mod Flat
pub mod Heads
pub mod HeadsShown
pub mod Sets
pub mod Reads
