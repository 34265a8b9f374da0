pub mod Kinds
pub mod Noted
pub mod Message
pub mod Report
pub mod Steps
pub mod Reply
