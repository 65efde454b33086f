pub mod Matrix
pub mod Factor
pub mod Inverse
pub mod Difference
pub mod Law
