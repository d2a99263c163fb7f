pub mod Ranges
pub mod Rounding
pub mod Coefficients
pub mod Levels
pub mod Obligations
pub mod Figures
