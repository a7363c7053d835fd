pub mod Calling
pub mod Once
