mod Starting
pub mod Once
