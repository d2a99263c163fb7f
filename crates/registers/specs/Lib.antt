pub mod Rows
pub mod Held
pub mod Laws
pub mod Places
