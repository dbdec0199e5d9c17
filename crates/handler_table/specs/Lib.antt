pub mod Entries
pub mod Filled
pub mod Refusals
pub mod Rows
pub mod Sizes
pub mod View
