pub mod GrowthLaws
pub mod LaneLaws
