pub mod Accepting
pub mod Grouped
pub mod Places
pub mod Ranges
