pub mod Readings
pub mod Writing
