pub mod Amounts
pub mod Digits
pub mod Texts
pub mod Reading
