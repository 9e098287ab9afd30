pub mod Beside
pub mod Earlier
pub mod Numbered
pub mod Histories
pub mod Bodies
