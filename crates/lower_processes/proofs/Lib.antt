pub mod NumberedPorts
pub mod LoweredExpressions
pub mod LoweredProcesses
pub mod SeenBehaviours
pub mod SeenExpressions
