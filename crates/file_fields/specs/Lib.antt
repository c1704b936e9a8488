pub mod Numbers
pub mod Fields
pub mod Tokens
pub mod Cursors
