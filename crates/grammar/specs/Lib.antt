pub mod Grammar
pub mod Machine
pub mod Laws
pub mod Scan
