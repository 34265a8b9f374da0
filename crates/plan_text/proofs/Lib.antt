mod Lines
pub mod Whole
