pub mod StuckLemmas
