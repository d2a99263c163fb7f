mod Totals
mod Movements
mod Says
mod Founded
mod Registers
mod Accounts
mod Kept
mod Steps
mod Settles
mod Answered
pub mod Lawful
pub mod Telling
