pub mod Certified
pub mod Totals
pub mod Accounts
