pub mod Lists
pub mod Readings
