pub mod Image
pub mod State
pub mod Calls
pub mod Lending
pub mod Moves
