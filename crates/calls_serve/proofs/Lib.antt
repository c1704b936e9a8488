pub mod Lines
pub mod Passed
pub mod Holding
pub mod Prefixes
