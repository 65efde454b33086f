pub mod Codes
pub mod Rooms
pub mod Refusals
pub mod P
pub mod Result
pub mod Bounds
