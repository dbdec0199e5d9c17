pub mod ExpressionForms
pub mod Lists
pub mod ProcessForms
pub mod ByKind
pub mod Silent
pub mod Turns
