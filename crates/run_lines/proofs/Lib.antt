pub mod Splitting
pub mod Postings
pub mod Pieces
pub mod Saying
pub mod Exchanging
pub mod Answers
pub mod Fronts
pub mod Lined
