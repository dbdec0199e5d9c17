pub mod Trials
pub mod Kept
pub mod Joined
pub mod FewTokens
pub mod ReadPast
pub mod Whole
