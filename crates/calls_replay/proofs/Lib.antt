pub mod Records
pub mod Enters
pub mod Lines
pub mod Claims
pub mod Runs
