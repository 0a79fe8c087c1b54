pub mod Buffers
pub mod Checked
pub mod Messages
pub mod Returned
pub mod BothEnds
pub mod Sound
