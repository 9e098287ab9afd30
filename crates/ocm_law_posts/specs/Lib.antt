pub mod Answers
pub mod Documents
pub mod Letters
pub mod Names
pub mod Posts
pub mod Wrong
