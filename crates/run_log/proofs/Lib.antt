pub mod Clocks
pub mod Sharing
pub mod Keeping
pub mod Existing
pub mod Picking
