pub mod Sums
pub mod Floors
pub mod Standing
pub mod Keeps
pub mod Products
