pub mod Taken
pub mod Names
pub mod Limits
pub mod Rootless
pub mod Replies
pub mod Going
pub mod Rebuilt
