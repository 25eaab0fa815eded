pub mod Sizes
pub mod Tags
pub mod Fields
pub mod Reading
pub mod Events
pub mod Steps
