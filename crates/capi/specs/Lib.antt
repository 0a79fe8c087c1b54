pub mod Calls
pub mod Issuers
pub mod Whole
pub mod Receivers
pub mod Standing
pub mod Listing
