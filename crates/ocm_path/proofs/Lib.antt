pub mod Joining
pub mod Kept
pub mod RoundTrip
pub mod SegmentsRead
pub mod TextRead
