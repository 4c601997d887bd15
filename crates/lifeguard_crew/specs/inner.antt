pub mod Rounds
pub mod Slots
pub mod Rows
pub mod Online
pub mod Readers
