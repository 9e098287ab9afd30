pub mod Growing
pub mod Imaged
pub mod Joined
pub mod Keeping
pub mod Logging
pub mod Naming
pub mod ScriptTexts
pub mod Written
