pub mod Laws
pub mod TaintRules
