pub mod Runs
pub mod LogRuns
pub mod Reads
pub mod Folds
pub mod Kept
