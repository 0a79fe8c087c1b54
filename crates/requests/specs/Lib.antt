pub mod Fields
pub mod Lines
pub mod Tallies
pub mod Texts
pub mod Replies
pub mod Runs
