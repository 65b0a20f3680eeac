mod Halves
mod Machine
pub mod Every
pub mod UndoLaws
mod Undoing
pub mod RebuildLaws
mod PartRanges
mod RebuildSteps
mod EndsSteps
pub mod RebuildTests
pub mod StopsAt
pub mod RoundTrips
pub mod Promises
