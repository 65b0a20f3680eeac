pub mod Needed
pub mod NeededList
pub mod Promises
pub mod inside
