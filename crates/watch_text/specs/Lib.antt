pub mod CountsText
pub mod FoundText
pub mod inner
