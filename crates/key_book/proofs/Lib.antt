pub mod Padded
pub mod Indexed
pub mod Sorted
pub mod Positions
pub mod Tabled
pub mod Digested
pub mod Rows
pub mod Lacking
pub mod Moved
pub mod Listed
mod Judged
