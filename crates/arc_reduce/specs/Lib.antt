pub mod Reduction
pub mod Taken
pub mod Drawn
