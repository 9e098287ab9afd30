pub mod AddressReading
pub mod Digits
pub mod HostPorts
pub mod HostReading
pub mod HostTexts
pub mod Numbers
pub mod Permissions
