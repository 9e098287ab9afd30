pub mod Prefixes
pub mod Moments
pub mod Behind
pub mod Taking
pub mod Looking
pub mod Going
pub mod EmptyLists
pub mod Telling
