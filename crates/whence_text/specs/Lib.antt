pub mod Text
pub mod Happened
pub mod Answered
pub mod Following
