pub mod Refusal
pub mod Sealed
pub mod Seen
pub mod Refusals
pub mod Need
pub mod Step
