pub mod Buffers
pub mod Checks
pub mod Outcomes
pub mod Laws
