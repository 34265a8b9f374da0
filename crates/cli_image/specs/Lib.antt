pub mod Init
pub mod Stat
pub mod Taking
pub mod Unserved
