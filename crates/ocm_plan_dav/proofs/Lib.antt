pub mod Rows
pub mod Methods
pub mod CarryPlans
