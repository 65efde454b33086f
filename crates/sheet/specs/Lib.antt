pub mod Contents
pub mod Rising
pub mod Reading
pub mod Tiling
pub mod Positions
