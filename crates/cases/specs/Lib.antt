pub mod Device
pub mod Outcome
pub mod Tally
