pub mod Fields
pub mod Json
pub mod Nested
pub mod Seen
