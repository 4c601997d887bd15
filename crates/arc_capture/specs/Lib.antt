pub mod Recorded
pub mod Capture
pub mod Marker
pub mod Recorder
