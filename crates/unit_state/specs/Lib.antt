pub mod State
pub mod Applied
pub mod Taking
pub mod Allows
pub mod Restart
pub mod History
pub mod Initial
pub mod Laws
