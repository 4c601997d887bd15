pub mod FeedingLemmas
pub mod CrewLemmas
pub mod LogLemmas
pub mod ReadyLemmas
