pub mod Conns
pub mod Dials
