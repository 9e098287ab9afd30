pub mod Doors
pub mod Objects
pub mod Statuses
pub mod Visits
