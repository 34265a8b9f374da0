pub mod Numbers
pub mod Bits
pub mod Past
pub mod Lowered
pub mod Fields
pub mod Turns
