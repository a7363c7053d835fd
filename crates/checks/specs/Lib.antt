pub mod Asked
pub mod Judged
