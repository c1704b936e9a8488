pub mod Ranges
pub mod Rates
pub mod Differences
