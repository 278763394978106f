pub mod Form
pub mod FormLaws
pub mod RoomLaws
pub mod Agree
pub mod AgreeLaws
