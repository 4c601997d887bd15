pub mod Matching
pub mod Ends
pub mod Spare
pub mod Same
pub mod Longer
pub mod Deciding
pub mod Drawing
pub mod Lawful
