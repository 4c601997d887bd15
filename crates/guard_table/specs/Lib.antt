pub mod Views
pub mod Rule
pub mod Puts
pub mod Seats
pub mod Laws
pub mod inner
