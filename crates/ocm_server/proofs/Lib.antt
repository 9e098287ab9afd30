pub mod Dealing
pub mod Giving
pub mod Serving
pub mod Sharing
pub mod Visiting
