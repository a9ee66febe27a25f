pub mod MergedLists
pub mod Placing
pub mod Taking
pub mod Laid
