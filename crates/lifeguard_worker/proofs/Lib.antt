pub mod RowLemmas
pub mod FedLemmas
pub mod LookLemmas
pub mod MoveLemmas
pub mod FeedingLemmas
pub mod AnswerLemmas
pub mod HeldLemmas
