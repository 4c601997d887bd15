pub mod NibbleLemmas
pub mod LaneLemmas
pub mod Blocks
pub mod Represented
pub mod Sound
pub mod PageTests
pub mod LogLemmas
