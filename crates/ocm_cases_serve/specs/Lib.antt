pub mod Notings
