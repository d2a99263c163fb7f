pub mod Rules
pub mod Tallies
pub mod Faults
pub mod Sheets
pub mod Whole
pub mod Marked
pub mod Laws
