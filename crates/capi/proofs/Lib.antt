pub mod Outcomes
pub mod Receivings
pub mod OpenAfterSeal
pub mod Instances
