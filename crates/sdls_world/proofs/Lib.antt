pub mod Answering
pub mod Moments
pub mod Places
