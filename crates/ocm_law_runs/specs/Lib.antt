pub mod Standing
pub mod Wrong
pub mod Promises
