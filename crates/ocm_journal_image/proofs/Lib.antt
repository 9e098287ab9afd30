pub mod ForAnyLabel
pub mod ImageRead
pub mod OneImage
pub mod ReadBack
pub mod RecordsRead
pub mod Sizes
