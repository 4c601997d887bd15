pub mod Watched
pub mod Partners
pub mod Traces
pub mod Traced
pub mod Settled
pub mod Touches
