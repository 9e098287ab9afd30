pub mod Asked
pub mod Servers
pub mod Deliveries
pub mod Talks
pub mod Transcript
pub mod Drills
pub mod Traces
pub mod Running
