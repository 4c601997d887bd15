pub mod Feeding
pub mod Watched
pub mod Crews
