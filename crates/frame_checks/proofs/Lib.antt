pub mod Rows
pub mod Replies
pub mod Alike
pub mod Tried
