pub mod Keys
pub mod Openings
pub mod Statuses
