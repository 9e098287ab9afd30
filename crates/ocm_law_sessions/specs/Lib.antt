pub mod Readings
pub mod Written
pub mod Sessions
pub mod Crashes
