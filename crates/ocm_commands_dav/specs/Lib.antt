pub mod Answers
pub mod Exchanges
pub mod Laws
pub mod Words
