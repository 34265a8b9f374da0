pub mod Texts
pub mod Windows
pub mod NumberLists
pub mod CommandLengths
pub mod MonitorLengths
pub mod AskedWords
mod Skipped
