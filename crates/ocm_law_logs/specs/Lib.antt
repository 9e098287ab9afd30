pub mod Logged
pub mod Wrong
