pub mod PlainWords
pub mod PlainLines
pub mod MessageOctets
pub mod SaidAgain
pub mod FirstLines
pub mod Items
pub mod Progress
mod AnswerProgress
mod ItemProgress
pub mod Writing
mod StateWords
mod StateLineTexts
mod ObjectProgress
