pub mod Degrees
pub mod Values
pub mod Listing
pub mod Rebuilding
pub mod Planning
pub mod Sets
pub mod Layout
