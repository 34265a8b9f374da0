pub mod Accepting
pub mod Addressed
pub mod Binding
pub mod Header
pub mod OpeningFrames
pub mod ProtectingFrames
pub mod Trying
