pub mod Circles
pub mod Lanes
pub mod Schedules
pub mod Runs
pub mod Jobs
