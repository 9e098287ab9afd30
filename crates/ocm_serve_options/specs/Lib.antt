pub mod Complaints
pub mod Keys
pub mod Plans
