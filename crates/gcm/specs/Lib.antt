pub mod Counter
pub mod Field
pub mod Folded
pub mod Gcm
pub mod Rows
