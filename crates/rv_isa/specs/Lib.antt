pub mod Fields
pub mod Table
pub mod Valid
pub mod Listing
