pub mod Lines
pub mod Words
pub mod Several
pub mod Gives
pub mod Events
pub mod Bodies
pub mod Forms
pub mod Script
