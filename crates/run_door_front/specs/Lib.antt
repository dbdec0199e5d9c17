pub mod Keeping
pub mod Exchanged
pub mod AnswerSteps
pub mod Moving
pub mod NextSteps
pub mod Draining
pub mod Rounds
