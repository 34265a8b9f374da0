pub mod Alone
pub mod Booking
pub mod Ending
pub mod Fitting
pub mod Holding
pub mod Keeping
pub mod Knowing
pub mod Moving
pub mod Rows
pub mod Sharing
pub mod Slots
pub mod Sums
mod Meeting
