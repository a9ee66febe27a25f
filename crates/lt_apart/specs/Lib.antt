pub mod Remote
pub mod Faults
pub mod Carrying
pub mod Telling
