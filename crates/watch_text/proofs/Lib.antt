pub mod RowLemmas
pub mod Spans
pub mod Inside
