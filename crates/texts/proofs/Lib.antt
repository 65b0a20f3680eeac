pub mod PutLaws
pub mod DecimalLaws
mod TextLaws
pub mod PartLaws
mod LineLaws
mod LinesPut
pub mod DecimalDigits
pub mod ReadBack
pub mod TextIsLines
pub mod LineLengths
pub mod HeldText
pub mod IntervalUnprinted
