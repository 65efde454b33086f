-- Imhof's integrand, which the crate `integrand` defines and works out. Assumes nothing.
unfoldable pub use Rattle.integrand.specs.Integrand.{integrand_of}
