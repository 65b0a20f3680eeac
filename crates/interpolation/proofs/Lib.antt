mod InterpolateLoops
mod InterpolateCall
pub mod InterpolateLaw
