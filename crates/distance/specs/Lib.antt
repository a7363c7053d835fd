pub mod Distances
pub mod Marks
