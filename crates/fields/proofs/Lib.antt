pub mod Ahead
pub mod Appended
pub mod Digits
pub mod Placed
