pub mod Marking
pub mod Filling
pub mod Answering
pub mod Once
