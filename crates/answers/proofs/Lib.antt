mod InputLaws
mod HeldLaws
pub mod PieceLaws
pub mod LineInterval
mod AnswerCases
pub mod Rooms
mod AnswerLaws
mod TurnLaws
pub mod InputLines
pub mod Turns
pub mod OneAnswer
pub mod AnswersSame
pub mod TextFits
pub mod PrintedBack
