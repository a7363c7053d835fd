pub mod Answering
pub mod Once
