pub mod Digits
pub mod Fronts
pub mod Reading
pub mod ShortNumbers
pub mod Spelling
