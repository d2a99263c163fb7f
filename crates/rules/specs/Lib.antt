pub mod Records
pub mod Refusals
pub mod Year
pub mod Facts
pub mod Settling
pub mod Judgement
pub mod Calls
