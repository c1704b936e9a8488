pub mod Calls
pub mod Holding
