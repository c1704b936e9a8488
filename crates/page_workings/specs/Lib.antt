pub mod Options
pub mod Rules
