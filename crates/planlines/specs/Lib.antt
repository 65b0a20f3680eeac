pub mod AnswerBlock
pub mod BlocksAnswered
pub mod LastText
pub mod AnswerInput
