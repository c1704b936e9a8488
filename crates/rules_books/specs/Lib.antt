pub use Rattle.rules_amounts.specs.Ranges
pub mod Tables
pub mod Texts
pub mod Books
pub mod Lawful
pub mod Amounts
