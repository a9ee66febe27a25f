pub mod Sums
pub mod Members
pub mod Searches
pub mod Gathering
pub mod AllLemmas
pub mod Puts
