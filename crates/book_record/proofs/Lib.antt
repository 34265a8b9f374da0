mod Again
mod Bodies
mod Lengths
mod Lists
pub mod Rows
