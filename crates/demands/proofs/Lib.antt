mod RunThen
mod PowerRun
mod TreeRun
mod CommonRun
mod PlanRun
pub mod Refusals
mod LastList
pub mod Accepts
pub mod Right
pub mod MadeBefore
pub mod Counted
pub mod PlainStep
mod Pairs
pub mod Estimated
pub mod StoredEarlier
pub mod FoldNumber
pub mod Detected
pub mod HeadTold
pub mod Fits
pub mod Total
pub mod RefusedWalks
pub mod Equal
pub mod Starred
pub mod Demands
pub mod Sized
pub mod Weighed
pub mod HeadInterval
pub mod RebuiltPlans
pub mod MadePlan
pub mod AddedPlans
mod Parts
mod JoinedTests
mod Alike
pub mod SetAccepts
pub mod SetPowers
pub mod SetRight
pub mod SetAnswer
pub mod SetCounted
pub mod SetOne
pub mod SetSaves
pub mod SetFits
pub mod SetTotal
pub mod SetSized
pub mod Conversions
pub mod Requests
