pub mod Stepping
