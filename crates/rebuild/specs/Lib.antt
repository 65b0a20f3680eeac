pub mod Undo
pub mod Rebuild
pub mod RebuildCall
pub mod StopsAt
pub mod Promises
pub mod inside
