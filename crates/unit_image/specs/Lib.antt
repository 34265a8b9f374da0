pub mod Rows
pub mod Content
pub mod ContentReading
pub mod Image
pub mod Shows
pub mod OpeningImage
pub mod Storing
pub mod Beginning
