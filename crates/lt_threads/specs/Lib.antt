pub mod Meeting
pub mod Pushes
pub mod Threads
pub mod Workers
pub mod Settled
pub mod Taking
pub mod Visits
