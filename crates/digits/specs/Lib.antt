pub mod Hex
pub mod Numbers
pub mod Frames
pub mod Laws
