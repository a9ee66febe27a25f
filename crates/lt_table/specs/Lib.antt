pub mod TableData
pub mod Seen
pub mod Stamps
