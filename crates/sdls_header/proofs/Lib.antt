pub mod Masks
pub mod Splits
