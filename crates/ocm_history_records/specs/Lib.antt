pub mod Kept
pub mod Packed
pub mod Drafts
pub mod Asking
