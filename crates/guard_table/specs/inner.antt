pub mod Plays
pub mod TestPlans
