pub mod LocalReplies
pub mod Makes
pub mod UserLines
