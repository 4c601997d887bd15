pub mod PlayLemmas
pub mod Refusals
pub mod RunLemmas
pub mod Calls
pub mod ChosenLemmas
pub mod OneCommand
pub mod Complete
pub mod Threading
