pub mod First
pub mod Next
pub mod Side
pub mod Spread
