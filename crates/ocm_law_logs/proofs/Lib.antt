pub mod Bare
pub mod Growing
pub mod Fronts
pub mod Truths
