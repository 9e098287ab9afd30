pub mod OneAnswers
pub mod Spelling
pub mod Steps
