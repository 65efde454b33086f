pub mod Projection
pub mod Loaded
