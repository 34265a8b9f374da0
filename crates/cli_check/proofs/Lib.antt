pub mod Rooms
pub mod Judging
pub mod Spelling
