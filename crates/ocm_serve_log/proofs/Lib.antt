mod Changing
mod Holding
mod Texts
mod Told
pub mod TrueLines
