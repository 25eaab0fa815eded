pub mod Network
pub mod Lists
pub mod SliceCalls
pub mod Reading
