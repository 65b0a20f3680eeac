pub mod KindNumbers
pub mod HeadsShown
pub mod Reading
pub mod NoSet
pub mod SameMembers
mod PlaceByPlace
