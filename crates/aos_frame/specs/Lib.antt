pub mod AosFrame
pub mod FirstFault
pub mod Header
pub mod Reading
