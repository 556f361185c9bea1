pub mod Slots
pub mod Moves
pub mod Means
