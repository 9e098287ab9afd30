pub mod Letters
pub mod Rows
pub mod Mailings
