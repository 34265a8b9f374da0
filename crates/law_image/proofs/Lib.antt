pub mod Images
mod SaidIds
mod PlanIds
pub mod StateIds
mod Said
pub mod Planned
mod Deciding
mod Allowing
mod Recording
pub mod Contents
pub mod Beginning
pub mod Ruled
mod DecidingLists
mod DecidingRules
mod ContentRead
mod DecidingContent
mod Showing
mod Cut
