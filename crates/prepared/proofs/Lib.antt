pub mod Reaching
pub mod Preparing
