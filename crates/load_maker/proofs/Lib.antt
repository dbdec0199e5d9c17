pub mod LinesCut
pub mod Loading
