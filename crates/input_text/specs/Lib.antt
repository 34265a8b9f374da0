pub mod Plain
pub mod Fields
pub mod Command
pub mod Monitor
pub mod Line
