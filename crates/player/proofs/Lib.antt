pub mod Stack
pub mod Front
pub mod Evaluate
pub mod Opening
pub mod Storing
pub mod Moves
pub mod Performing
