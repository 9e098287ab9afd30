pub mod Behind
pub mod Crossing
pub mod Exchanging
pub mod Sending
