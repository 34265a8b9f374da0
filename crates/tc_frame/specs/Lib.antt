pub mod FirstFault
pub mod Header
pub mod Reading
pub mod TcFrame
