pub mod Links
pub mod Ends
pub mod Revoked
pub mod Secrets
pub mod Holding
pub mod Permissions
pub mod Chains
