pub mod Beginnings
pub mod OperationTables
pub mod Places
pub mod ProcessForms
