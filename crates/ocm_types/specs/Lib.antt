pub mod Addresses
pub mod Draws
pub mod Hosts
pub mod Phases
pub mod Reads
pub mod Rights
pub mod Texts
