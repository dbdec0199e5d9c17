pub mod OwnSets
mod Services
