pub use Rattle.file_body.specs.Files
pub use Rattle.file_writing.specs.Texts
pub mod Faithful
pub mod Content
