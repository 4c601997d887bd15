pub mod Parsing
pub mod Spelled
pub mod Told
pub mod Calls
