pub mod World
pub mod Ends
pub mod Guests
pub mod Hearing
pub mod Stories
pub mod Cases
pub mod Wrong
