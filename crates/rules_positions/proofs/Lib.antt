pub mod Made
pub mod Ranges
