pub mod Letters
pub mod Kinds
pub mod Ranges
pub mod Refusals
pub mod Records
pub mod Bounds
pub mod Texts
