pub mod Causes
pub mod Conditions
pub mod Sets
pub mod Articles
pub mod ByArticle
