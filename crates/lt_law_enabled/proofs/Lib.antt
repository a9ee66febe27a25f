pub mod Acts
pub mod Takes
pub mod Order
