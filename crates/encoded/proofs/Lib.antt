mod Made
mod Numbers
pub mod Complete
mod PartWritten
mod Decoding
