pub mod RegisterLemmas
pub mod HeldLemmas
pub mod ResolveLemmas
pub mod OldestLemmas
pub mod CallLemmas
