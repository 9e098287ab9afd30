pub mod Interims
pub mod Peers
