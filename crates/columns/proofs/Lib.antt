pub mod Adding
mod Putting
