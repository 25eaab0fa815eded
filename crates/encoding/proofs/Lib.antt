pub mod Lists
pub mod Entry
