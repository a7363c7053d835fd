pub mod CommonBits
pub mod Iterating
pub mod Made
pub mod Rows
pub mod Words
