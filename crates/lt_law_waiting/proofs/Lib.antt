pub mod KeptAsks
pub mod Unmarked
pub mod RingWalks
pub mod Reports
pub mod VoidReports
pub mod WaitsAtRest
pub mod Explained
