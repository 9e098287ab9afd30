pub mod Faults
pub mod Methods
pub mod SecretTexts
pub mod ShortPaths
pub mod SoundCommands
pub mod SoundWants
