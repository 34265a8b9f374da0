pub mod Link
pub mod Delivered
pub mod Fate
pub mod Chunk
