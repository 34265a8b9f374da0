pub mod Cmac
pub mod Running
