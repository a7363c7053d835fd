pub mod Layers
mod LayerTurns
pub mod ReadMarks
