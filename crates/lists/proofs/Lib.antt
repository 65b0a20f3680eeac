pub mod TreeRule
pub mod TreeFacts
pub mod SumByLength
pub mod Arranging
pub mod FullTrees
mod Counting
mod ListedAgain
pub mod ListTests
pub mod ListerCuts
pub mod ListCall
pub mod Lists
pub mod ArrangedKept
pub mod ArrangedSums
pub mod Bounds
pub mod Standing
pub mod ListSums
pub mod Same
pub mod Promises
