pub mod PlacesMoved
pub mod Once
