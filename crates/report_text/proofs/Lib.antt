pub mod Longest
pub mod OpenRun
pub mod FrameLemmas
