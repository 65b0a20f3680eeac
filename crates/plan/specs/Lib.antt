pub mod PlanSteps
pub mod Reported
pub mod PlanHead
pub mod PlanCall
pub mod PlanSizes
pub mod inside
