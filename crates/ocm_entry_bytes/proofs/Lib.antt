pub mod AskRows
pub mod FieldKinds
pub mod FieldLaws
pub mod Lengths
pub mod OwnTexts
pub mod PathText
pub mod RowLaws
pub mod Whole
