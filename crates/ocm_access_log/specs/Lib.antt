pub mod Cuts
pub mod Gives
pub mod Lines
pub mod Logs
pub mod Reads
pub mod Truth
pub mod Written
