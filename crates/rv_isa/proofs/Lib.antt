pub mod Lookup
pub mod Rows
pub mod Reading
pub mod FieldRanges
pub mod Unique
pub mod Writing
pub mod Texts
