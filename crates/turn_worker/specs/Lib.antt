pub mod Workers
pub mod Turns
pub mod Results
pub mod Crews
