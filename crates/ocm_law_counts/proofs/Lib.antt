pub mod Shares
pub mod Rows
pub mod Sending
pub mod Records
pub mod Requests
pub mod Limits
pub mod Numbers
