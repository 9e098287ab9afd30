pub mod AfterFaults
pub mod Faults
pub mod Journals
pub mod LiveAreas
pub mod Openings
pub mod Passing
pub mod Steps
pub mod Renewals
