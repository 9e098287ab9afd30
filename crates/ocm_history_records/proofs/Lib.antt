pub mod Leaning
pub mod Fields
pub mod Growing
pub mod Counting
pub mod Drafting
pub mod Asking
pub mod Packing
