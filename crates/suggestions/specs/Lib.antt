pub mod Ranks
pub mod Answered
