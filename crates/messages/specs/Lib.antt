pub mod Slices
pub mod SliceLists
