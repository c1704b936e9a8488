pub mod Answers
pub mod Texts
pub mod Laws
