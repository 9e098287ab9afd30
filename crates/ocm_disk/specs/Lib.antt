pub mod AccountLaws
pub mod Accounts
pub mod Disk
pub mod Fuse
pub mod Marks
pub mod Memory
pub mod Past
pub mod Shelf
