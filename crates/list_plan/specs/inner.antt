pub mod Tables
pub mod Fills
pub mod Pieces
pub mod Changes
pub mod Rooms
pub mod Rows
