pub mod Phases
pub mod Ranges
pub mod Model
