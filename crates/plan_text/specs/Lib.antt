pub mod Check
pub mod Moved
pub mod Put
pub mod Wanted
