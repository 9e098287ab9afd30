pub mod Blank
pub mod Layout
pub mod Reading
