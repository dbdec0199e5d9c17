pub mod Courses
pub mod Swept
