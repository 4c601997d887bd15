pub mod ArcLemmas
pub mod ArcReading
pub mod Chain
pub mod KindFields
pub mod LineTexts
pub mod PointLemmas
pub mod Widths
