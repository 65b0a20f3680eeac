pub mod StepNumbers
pub mod PowerSteps
mod TwoPowerSteps
pub mod StepCounts
mod TreeSteps
pub mod ListTotals
pub mod HeadCounts
pub mod PlanTests
mod FilledBuffers
mod CallAnswers
