pub mod Tallying
pub mod Prices
pub mod Entries
pub mod Payments
pub mod Turns
pub mod Laws
