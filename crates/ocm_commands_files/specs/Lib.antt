pub mod Lines
pub mod Words
pub mod Audits
pub mod Checks
pub mod Compacts
pub mod Logchecks
pub mod Commands
