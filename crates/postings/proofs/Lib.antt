pub mod Holders
pub mod Returns
