pub mod Draws
pub mod Federation
pub mod Script
pub mod Summary
