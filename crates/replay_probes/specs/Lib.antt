pub mod CanPlay
pub mod Meaning
pub mod Plays
pub mod Watched
pub mod Watches
