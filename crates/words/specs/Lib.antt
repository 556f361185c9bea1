pub mod Bytes
pub mod Examples
pub mod Laws
pub mod Numbers
pub mod Words
