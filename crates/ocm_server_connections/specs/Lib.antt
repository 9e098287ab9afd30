pub mod Drawing
pub mod Noting
pub mod Parts
pub mod Responding
pub mod Sides
pub mod Talk
