mod Growth
mod RowLaws
mod Terms
mod Summing
mod TestedLaws
pub mod CallLaws
