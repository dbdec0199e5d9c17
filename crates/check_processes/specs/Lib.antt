pub mod FirstInputParts
pub mod FirstInputs
pub mod InitParts
pub mod InitRules
pub mod OperationTables
pub mod ProcessParts
pub mod ProcessRules
pub mod Surroundings
