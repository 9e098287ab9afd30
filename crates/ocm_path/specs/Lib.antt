pub mod Escapes
pub mod PathTexts
pub mod Paths
