pub mod Answers
pub mod Clauses
pub mod KeptPorts
pub mod Mentioned
pub mod MentionedParts
pub mod Programs
pub mod Refusals
pub mod ServiceRules
