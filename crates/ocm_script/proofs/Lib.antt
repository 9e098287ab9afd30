pub mod LineEnds
pub mod TextTests
