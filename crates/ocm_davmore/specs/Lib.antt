pub mod Destinations
pub mod Ranges
