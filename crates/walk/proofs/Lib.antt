mod Modular
mod PlaceLaws
pub mod PowerLaws
pub mod SumLaws
pub mod StackLaws
pub mod BoundaryLaws
pub mod StepLaws
pub mod RunLaws
pub mod LentLaws
pub mod CarryLaw
pub mod RunsAlike
pub mod Unrunnable
pub mod UsesMade
pub mod UnusedPower
pub mod FlatSteps
pub mod WalksHeld
pub mod TrialFollows
pub mod Paths
pub mod MadeRules
pub mod StepsWeigh
mod Alls
mod SplitHalves
mod RunsWithin
mod WeightBound
pub mod ChainLaws
pub mod HeaviestChain
pub mod IntervalUnread
