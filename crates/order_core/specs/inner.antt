pub mod Places
pub mod Needs
pub mod Kept
pub mod KeptFeeds
pub mod KeptFed
