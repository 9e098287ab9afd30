pub mod Grants
pub mod Revocation
