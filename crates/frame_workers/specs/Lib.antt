pub mod Lanes
pub mod Permits
pub mod Records
pub mod Bodies
pub mod Segment
