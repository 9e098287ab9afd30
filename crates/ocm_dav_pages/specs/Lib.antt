pub mod Bodies
pub mod Errors
pub mod Fields
pub mod Listings
pub mod Multistatus
pub mod Pages
