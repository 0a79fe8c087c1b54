pub mod Buffers
pub mod SixBytes
pub mod Printed
