pub mod Quote
pub mod Sheets
pub mod Share
pub mod Currency
pub mod Limits
