pub mod Aes
pub mod Basis
pub mod Schedule
pub mod Vectors
