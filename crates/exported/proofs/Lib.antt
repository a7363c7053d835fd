pub mod Guards
pub mod Sound
