pub mod Chains
pub mod Laid
