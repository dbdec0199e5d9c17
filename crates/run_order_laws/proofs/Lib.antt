pub mod Lists
pub mod Growing
pub mod Staying
pub mod Telling
pub mod Posting
pub mod Least
pub mod Accepting
pub mod Ordering
