pub mod PartsFacts
pub mod NumberFacts
pub mod ChannelFacts
pub mod ChannelIds
mod BareReading
mod WordCosts
pub mod BareRoom
