pub mod StepLemmas
pub mod SeatLemmas
pub mod PutLemmas
pub mod PlayLemmas
pub mod TestPlanLemmas
pub mod CountLemmas
