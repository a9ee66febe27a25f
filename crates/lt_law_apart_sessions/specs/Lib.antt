pub mod ApartSessions
pub mod SealedNodes
