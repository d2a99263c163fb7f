pub mod Bounds
pub mod Additions
