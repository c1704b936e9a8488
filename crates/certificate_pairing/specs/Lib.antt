pub mod Sums
pub mod Pairing
pub mod Dockets
pub mod Claims
pub mod Kept
pub mod Texts
