pub mod ProbeLines
pub mod Probes
