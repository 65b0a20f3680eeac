pub mod Interpolate
pub mod InterpolateLaw
pub mod InterpolateCall
pub mod inside
