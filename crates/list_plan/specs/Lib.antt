pub mod Agrees
pub mod inner
