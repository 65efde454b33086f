pub mod LookLaws
pub mod WorkLaws
pub mod SameAnswer
pub mod AnswerLaws
