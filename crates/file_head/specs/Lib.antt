pub mod Limit
pub mod Faults
pub mod Lines
pub mod Rates
pub mod Head
