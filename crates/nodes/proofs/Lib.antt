pub mod Grown
pub mod ByKind
