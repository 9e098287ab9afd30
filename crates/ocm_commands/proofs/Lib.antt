pub mod Shelved
pub mod Drilled
pub mod Parts
