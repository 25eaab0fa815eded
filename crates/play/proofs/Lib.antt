pub mod Moved
pub mod Printing
pub mod Reading
