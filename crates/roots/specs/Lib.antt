pub mod Root
pub mod Patterns
pub mod Lines
pub mod Squares
pub mod Hypot
pub mod Nearest
