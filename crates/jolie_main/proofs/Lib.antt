pub mod CommandsDone
