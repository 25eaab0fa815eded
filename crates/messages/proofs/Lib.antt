pub mod Flight
pub mod SliceForms
pub mod SliceWhole
pub mod SliceLeads
