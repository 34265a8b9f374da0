pub mod Checks
pub mod Codes
pub mod ControlFields
pub mod Endings
pub mod FieldLemmas
pub mod Searches
pub mod Pieces
pub mod Remainders
pub mod Differences
pub mod OctetSteps
pub mod Words
mod Joined
pub mod PlaceFacts
