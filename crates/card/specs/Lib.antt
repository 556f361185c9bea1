pub mod Refusals
pub mod Card
pub mod Calls
pub mod Laws
