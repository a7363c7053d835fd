pub mod Told
pub mod FiveCalls
pub mod Cite
