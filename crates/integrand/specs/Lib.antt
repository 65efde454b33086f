pub mod Integrand
pub mod Lanes
