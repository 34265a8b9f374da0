pub mod WindowField
pub mod Reach
pub mod Taken
pub mod TakenBack
pub mod Window
pub mod Past
pub mod Steps
