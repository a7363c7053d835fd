pub mod Once
pub mod Ready
pub mod Worlds
