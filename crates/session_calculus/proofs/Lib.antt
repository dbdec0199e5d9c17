mod Absent
mod Asks
mod Counting
mod Endings
mod Histories
mod Kept
mod Options
pub mod Settled
mod StandardTexts
mod Steps
mod Unblocked
mod Upward
mod Waits
