pub mod Options
pub mod Literals
pub mod Signed
pub mod FirstRefusal
pub mod Refused
pub mod Within
mod WholeFloats
pub mod Exact
pub mod Bits
pub mod SplitParts
pub mod SplitDistance
pub mod Cutting
mod Pair
pub mod CutSame
mod EverySecond
mod ParityLoops
mod FillFromEnd
mod Rows
mod CopyLoop
mod FoldLoops
pub mod FoldCall
pub mod FoldSame
mod EvaluateFolds
pub mod EvaluateLaw
pub mod ParityTold
pub mod BothHold
