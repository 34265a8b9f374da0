pub mod Putting
pub mod Reporting
pub mod Serving
pub mod Running
