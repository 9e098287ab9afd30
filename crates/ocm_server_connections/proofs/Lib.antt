pub mod Causes
pub mod Doing
pub mod Paging
pub mod Pairing
pub mod Replying
pub mod Responses
pub mod Talking
pub mod Writings
