pub mod LineSteps
pub mod LogBack
pub mod Order
pub mod ReadBack
pub mod TextTests
pub mod WordCuts
