pub mod Additions
pub mod Framing
pub mod Letters
pub mod Moves
pub mod OneAnswers
pub mod Runs
pub mod MachineLemmas
