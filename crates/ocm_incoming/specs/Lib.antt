pub mod Groups
pub mod Keys
pub mod Lists
pub mod Index
