pub mod Worked
pub mod Instances
