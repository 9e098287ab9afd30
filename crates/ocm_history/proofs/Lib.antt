pub mod Leaning
pub mod Memories
pub mod Going
