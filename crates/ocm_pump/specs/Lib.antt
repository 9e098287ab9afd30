pub mod Delivery
pub mod Exchanges
pub mod Laws
pub mod Memory
pub mod Replies
pub mod Sites
pub mod Machines
