pub mod Outlines
pub mod Writing
pub mod Filling
