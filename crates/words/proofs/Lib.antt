pub mod Bytes
pub mod Longest
pub mod Reading
pub mod Runs
pub mod Spelled
pub mod Value
