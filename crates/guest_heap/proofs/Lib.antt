pub mod Apart
pub mod Blocks
pub mod Edits
pub mod Tiling
