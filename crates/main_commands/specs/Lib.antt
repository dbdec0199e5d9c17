pub mod Numbers
pub mod Steps
pub mod Table
pub mod Rows
pub mod Grammar
pub mod Usage
pub mod Said
