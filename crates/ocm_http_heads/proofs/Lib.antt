pub mod Digits
pub mod EmptyLines
pub mod Heads
pub mod Looks
pub mod Masks
pub mod Skips
pub mod Values
