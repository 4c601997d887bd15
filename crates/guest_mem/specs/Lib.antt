pub mod Bytes
pub mod Directory
pub mod Faults
pub mod Image
pub mod Memory
