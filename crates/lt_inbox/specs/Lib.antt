pub mod Mail
pub mod Bits
pub mod Counts
pub mod Takes
