pub mod Chains
pub mod Holders
pub mod Granting
pub mod Tables
pub mod Answering
