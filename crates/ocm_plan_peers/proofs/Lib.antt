pub mod ListRows
pub mod NamedShares
pub mod Ends
pub mod Tellings
pub mod Settling
pub mod Children
pub mod Answering
pub mod Offered
