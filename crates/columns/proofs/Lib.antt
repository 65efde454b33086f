pub mod SheetLaws
pub mod Single
