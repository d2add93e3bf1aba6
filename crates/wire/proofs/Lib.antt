pub mod Parts
pub mod Quads
