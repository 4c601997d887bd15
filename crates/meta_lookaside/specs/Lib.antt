pub mod LookAside
pub mod Calls
