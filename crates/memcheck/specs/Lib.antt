pub mod Laws
pub mod MemRules
