pub mod Names
pub mod Lines
pub mod Fields
pub mod Shown
