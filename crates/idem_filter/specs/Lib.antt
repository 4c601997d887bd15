pub mod Filter
pub mod Calls
