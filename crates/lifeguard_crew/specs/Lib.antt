pub mod Drivers
pub mod Merges
pub mod inner
