pub mod History
pub mod Meets
