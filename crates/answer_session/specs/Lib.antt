pub mod Lines
pub mod Texts
pub mod Sessions
pub mod Sent
pub mod Laws
