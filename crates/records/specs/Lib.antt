pub mod Records
pub mod Answer
