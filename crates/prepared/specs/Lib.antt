pub mod Asking
pub mod Prepared
pub mod Reading
