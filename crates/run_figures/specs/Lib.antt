pub mod Summary
pub mod Tallies
pub mod Counting
