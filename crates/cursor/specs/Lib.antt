pub mod Text
pub mod Layout
pub mod InHand
pub mod Reading
pub mod Starts
