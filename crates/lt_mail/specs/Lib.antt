pub mod Words
pub mod Passing
pub mod Opening
pub mod Star
pub mod Known
pub mod Telling
