pub mod Client
pub mod Laws
