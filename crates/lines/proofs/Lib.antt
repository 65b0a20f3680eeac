mod FieldLaws
mod LineLaws
mod WholeLaws
pub mod FieldsJoined
pub mod LettersSay
pub mod SpelledSame
pub mod LinesSame
pub mod BufferHolds
