pub mod Behind
pub mod ValueParts
pub mod PlainStrings
pub mod Events
