pub mod Begun
pub mod Calls
pub mod Laws
pub mod Moves
pub mod Passes
pub mod Rule
pub mod Steps
