pub mod Numbers
pub mod Pages
pub mod Repages
pub mod Whole
