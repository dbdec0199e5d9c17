pub mod Entries
pub mod Posting
pub mod Ordering
pub mod Uncollected
pub mod Laws
