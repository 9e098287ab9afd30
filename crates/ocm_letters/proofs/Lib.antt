pub mod TextRules
pub mod GuestMessages
