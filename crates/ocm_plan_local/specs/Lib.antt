pub mod OwnRows
pub mod Told
