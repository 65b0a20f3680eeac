pub mod Rows
pub mod RowsLaw
pub mod Unique
pub mod Convert
pub mod Promises
pub mod FromTheTop
pub mod NoLarger
pub mod ParityKept
