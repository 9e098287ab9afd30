pub mod Repeats
pub mod Cases
