pub mod LineEffects
pub mod Excluding
pub mod GivenLocks
pub mod Kept
