pub mod Weights
pub mod Range
