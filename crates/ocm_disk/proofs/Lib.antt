pub mod Changes
mod Marking
pub mod Moments
mod Outcomes
mod Places
mod Tracking
