pub mod Values
pub mod Lists
pub mod Entries
