pub mod Refusals
pub mod Rules
pub mod Load
pub mod Accepts
pub mod Tied
pub mod Judgement
pub mod Sheets
pub mod Sound
