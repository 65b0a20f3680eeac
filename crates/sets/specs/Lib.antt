pub mod Members
pub mod Union
pub mod Own
pub mod SetPlan
pub mod SetCall
pub mod SetSizes
pub mod inside
