pub mod Faults
pub mod Kinds
pub mod Frames
pub mod Answers
