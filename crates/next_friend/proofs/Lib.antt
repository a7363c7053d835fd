pub mod Passing
pub mod Sides
pub mod Spreading
