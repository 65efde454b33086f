pub mod RoomLaws
pub mod KeptLaws
pub mod TestLaws
pub mod VouchLaws
pub mod EndLaws
