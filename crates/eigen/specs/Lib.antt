pub mod Kept
pub mod Falling
pub mod Spectrum
