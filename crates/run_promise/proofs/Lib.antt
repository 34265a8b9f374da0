pub mod Marking
pub mod Accepted
pub mod Needs
