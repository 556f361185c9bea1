pub mod Cards
pub mod Writes
pub mod Opening
pub mod Judging
pub mod Lawful
