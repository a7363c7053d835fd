pub mod Once
pub mod Read
pub mod Schemes
