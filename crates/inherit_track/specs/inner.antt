pub mod Held
pub mod Oldest
