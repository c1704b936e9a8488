pub mod Search
pub mod First
pub mod NotTried
pub mod Searches
