pub mod Standing
pub mod Numbers
pub mod Reached
pub mod Taking
