pub mod Functions
pub mod Figures
pub mod Witnesses
