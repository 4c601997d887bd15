pub mod Operations
pub mod Logs
