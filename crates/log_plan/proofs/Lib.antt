pub mod Clashing
pub mod Positions
pub mod Touching
pub mod LowWords
pub mod Wide
pub mod OpeningWords
pub mod FinalWords
pub mod PlanLemmas
