pub mod Asking
pub mod Answers
pub mod Notes
pub mod Ends
pub mod Statuses
