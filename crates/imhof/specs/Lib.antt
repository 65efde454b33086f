pub mod Integrand
pub mod Rule
pub mod Parts
pub mod Room
pub mod Quadrature
pub mod Imhof
