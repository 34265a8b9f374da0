pub mod Reading
pub mod Auditing
pub mod Calling
