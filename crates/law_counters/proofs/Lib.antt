pub mod Lists
pub mod Holders
pub mod Sums
pub mod Ruled
pub mod Moves
pub mod Spent
pub mod Runs
