pub mod Clocks
pub mod LastAccesses
pub mod inner
