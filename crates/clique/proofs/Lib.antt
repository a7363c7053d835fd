pub mod Holding
pub mod Joining
