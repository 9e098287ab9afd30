pub mod Answering
pub mod Idle
pub mod Sending
pub mod Told
