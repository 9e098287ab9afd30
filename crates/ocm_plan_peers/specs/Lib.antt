pub mod Settled
pub mod OfferLimits
