pub mod Judging
pub mod NearFound
