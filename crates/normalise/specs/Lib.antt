pub mod Command
pub mod RoomLaws
