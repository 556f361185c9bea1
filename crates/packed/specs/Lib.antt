pub mod Capacity
pub mod Slots
pub mod Starts
pub mod Model
pub mod Kept
