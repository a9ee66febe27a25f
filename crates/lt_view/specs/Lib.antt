pub mod View
pub mod ViewLaws
