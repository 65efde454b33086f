pub mod OrderLaws
pub mod KeptLaws
pub mod SpectrumLaws
