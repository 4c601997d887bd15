pub mod Blocks
pub mod FirstFit
pub mod Holes
pub mod Tiled
