pub mod Nearby
pub mod Passing
