pub mod Calls
pub mod OneAnswers
