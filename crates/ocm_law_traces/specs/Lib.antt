pub mod Texts
pub mod TrueLogs
