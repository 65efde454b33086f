pub mod Rotation
pub mod Sweep
pub mod Ql
