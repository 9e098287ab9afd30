pub mod Opens
pub mod Journaling
pub mod Exits
pub mod Wrote
pub mod Settled
pub mod Props
pub mod Room
pub mod Opened
pub mod Runs
pub mod Ties
mod Ended
