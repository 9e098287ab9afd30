pub mod Audits
pub mod Passes
