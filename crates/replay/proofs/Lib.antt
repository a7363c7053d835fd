pub mod Ranking
pub mod Filling
pub mod Printing
mod Once
