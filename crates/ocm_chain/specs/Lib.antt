pub mod Lists
pub mod Indexes
pub mod Reaches
pub mod Owners
pub mod Hypotheses
