pub mod Words
pub mod Sound
pub mod Complete
pub mod Meaning
pub mod Scan
