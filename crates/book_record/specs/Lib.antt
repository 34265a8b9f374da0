pub mod Kind
pub mod Record
pub mod Reading
pub mod Padded
pub mod KeyParts
pub mod SaParts
pub mod RowReading
