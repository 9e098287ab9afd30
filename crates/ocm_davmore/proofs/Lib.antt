pub mod Answered
pub mod DestinationForms
pub mod PlainAddresses
pub mod RangeForms
pub mod RangePlaces
