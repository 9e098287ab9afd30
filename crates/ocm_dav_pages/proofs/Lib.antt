pub mod DocumentLaws
pub mod ErrorLaws
pub mod ListingLaws
pub mod Responses
