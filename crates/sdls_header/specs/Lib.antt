pub mod Authenticated
pub mod SecurityHeader
