pub mod Started
pub mod Stands
