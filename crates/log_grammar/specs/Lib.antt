pub mod Spelling
pub mod Form
pub mod Arcs
pub mod Reads
pub mod Begins
