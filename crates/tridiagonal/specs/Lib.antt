pub mod Reflection
pub mod Bands
