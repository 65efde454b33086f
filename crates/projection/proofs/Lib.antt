pub mod IdentityLaws
pub mod TriangleLaws
pub mod ProjectionLaws
pub mod ProductLaws
pub mod RoomLaws
