pub mod Runs
pub mod Laws
pub mod Texts
