pub mod OneHistory
pub mod Repeating
pub mod Lives
pub mod Promises
