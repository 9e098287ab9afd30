pub mod Shelves
pub mod Running
pub mod Traces
