pub mod Marks
pub mod Places
pub mod Repeats
pub mod Audit
pub mod Taking
pub mod Counted
pub mod Recording
pub mod Walk
