pub mod Checks
pub mod Steps
pub mod Replays
