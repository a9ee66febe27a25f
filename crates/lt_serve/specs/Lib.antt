pub mod Schedules
pub mod Endings
pub mod Status
pub mod TopCall
pub mod Causes
pub mod Serves
pub mod Literals
