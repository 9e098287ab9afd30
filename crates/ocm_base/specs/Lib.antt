pub mod Items
pub mod Memory
pub mod Outside
