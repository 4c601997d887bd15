pub mod Positions
pub mod Watching
pub mod Clearing
pub mod Tracing
pub mod Settling
pub mod Growing
