pub mod Members
pub mod Rows
pub mod Sets
