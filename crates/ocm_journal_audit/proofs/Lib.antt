pub mod Framing
pub mod Sending
pub mod Telling
pub mod OwnHosts
