pub mod Skipjack
pub mod Products
pub mod Keys
pub mod Law
pub mod Remembered
pub mod KnownFigures
