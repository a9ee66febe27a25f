pub mod Serves
pub mod Status
pub mod Completing
pub mod Apart
