pub mod Relating
pub mod Undirected
