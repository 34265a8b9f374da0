mod Lists
mod Fields
pub mod RowsRead
mod Highs
pub mod Contents
mod Changing
pub mod Recorded
pub mod Leading
pub mod Shown
pub mod Turned
pub mod Restarted
pub mod ContentAfter
pub mod Stored
pub mod Bringing
pub mod OpenFaults
pub mod Outside
