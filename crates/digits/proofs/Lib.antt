pub mod Pairs
pub mod Bytes
pub mod Composed
pub mod Zeros
pub mod Turns
