pub mod Read
pub mod Sheet
pub mod Laws
