pub mod Verdicts
pub mod RefusalLines
pub mod Programs
