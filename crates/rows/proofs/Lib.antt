pub mod TermLaws
pub mod UpdateLaws
