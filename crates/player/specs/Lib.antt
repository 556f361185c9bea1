pub mod Stack
pub mod Evaluation
pub mod Opening
pub mod Of
pub mod Performed
