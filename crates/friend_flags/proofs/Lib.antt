pub mod Friendships
pub mod Packing
pub mod Telling
