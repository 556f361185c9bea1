pub mod Drive
pub mod Through
