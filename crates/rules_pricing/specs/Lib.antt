pub mod Kinds
pub mod Priced
pub mod Options
pub mod Alone
