pub mod Decimals
pub mod Products
pub mod Judging
pub mod Charts
pub mod Sums
