pub mod Law
pub mod Told
