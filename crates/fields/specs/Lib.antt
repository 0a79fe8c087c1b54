pub mod Cutting
pub mod Reading
pub mod Placing
pub mod Texts
