pub mod SweepLaws
pub mod StuckLaws
pub mod SizeLaws
