pub mod Showing
pub mod Floors
