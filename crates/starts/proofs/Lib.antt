pub mod OneStored
pub mod StartsMarked
