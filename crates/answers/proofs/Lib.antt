pub mod LinesLaws
pub mod NextLaws
pub mod AnswerLaws
pub mod OneOutcome
pub mod Examples
