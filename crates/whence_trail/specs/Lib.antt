pub mod Happenings
pub mod Blocks
pub mod Nearness
pub mod Answers
