pub mod Faults
pub mod Rules
pub mod Holdings
pub mod Meaning
