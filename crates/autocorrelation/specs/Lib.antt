pub mod Statistic
pub mod Bound
