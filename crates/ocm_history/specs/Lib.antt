pub mod Kept
pub mod Histories
pub mod Changes
pub mod Replays
