pub mod Openings
pub mod Worlds
pub mod Keeping
