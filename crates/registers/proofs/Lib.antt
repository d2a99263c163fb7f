pub mod Walks
mod Search
mod Changes
pub mod Order
pub mod Members
pub mod Sums
pub mod Entries
mod Moves
