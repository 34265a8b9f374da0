pub mod Making
pub mod Sinking
pub mod Telling
pub mod Stopping
