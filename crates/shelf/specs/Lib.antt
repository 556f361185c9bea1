pub mod Limits
pub mod Value
pub mod Refusals
pub mod Kinds
pub mod Calls
pub mod Laws
pub mod Entries
