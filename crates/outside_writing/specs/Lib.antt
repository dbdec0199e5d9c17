pub mod Sinks
