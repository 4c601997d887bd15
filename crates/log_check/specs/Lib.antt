pub mod Checked
pub mod Answers
pub mod inner
