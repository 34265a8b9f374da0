pub mod Code
pub mod Part
pub mod Reply
pub mod Monitor
pub mod Line
pub mod Listing
pub mod Plain
