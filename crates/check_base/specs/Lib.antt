pub mod Console
pub mod Files
pub mod Least
pub mod MaybeThere
pub mod OnceEach
pub mod Repeated
pub mod TypeNames
