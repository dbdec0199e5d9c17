pub mod Limit
pub mod Oldest
pub mod Refusals
pub mod View
