pub mod Planning
pub mod GuestMessages
