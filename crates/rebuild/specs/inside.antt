pub mod Matching
pub mod Rebuilding
