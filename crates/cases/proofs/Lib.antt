pub mod Filling
pub mod Reading
pub mod Summing
