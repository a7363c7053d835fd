pub mod Cite
