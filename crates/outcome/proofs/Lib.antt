pub mod PassLaws
pub mod Bounds
pub mod RoomLaws
pub mod Single
