pub mod Requests
pub mod Links
pub mod Served
pub mod Wrong
