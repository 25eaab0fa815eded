pub mod Parts
pub mod Loaded
pub mod PathNumbers
pub mod FieldNumbers
pub mod Frame
