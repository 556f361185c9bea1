pub mod Laying
pub mod Leaves
pub mod Reading
pub mod Starts
pub mod Steps
