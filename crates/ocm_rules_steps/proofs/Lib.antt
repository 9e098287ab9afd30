pub mod Rows
pub mod OtherSteps
pub mod FileSteps
pub mod CommandSteps
pub mod NoticeSteps
pub mod Refusals
