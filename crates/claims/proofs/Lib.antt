pub mod FromContracts
pub mod Guards
pub mod Sound
