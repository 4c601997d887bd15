pub mod Pairs
pub mod Ends
pub mod Outlets
