-- For callers.
pub mod DifferenceLaws
pub mod Bounds
pub mod Early
pub mod Single
pub mod Worked
-- For the proofs of this crate.
pub mod MadeLaws
pub mod FactorLaws
pub mod InverseLaws
pub mod CrossLaws
pub mod TraceLaws
pub mod EveryLaws
pub mod NotBelow
