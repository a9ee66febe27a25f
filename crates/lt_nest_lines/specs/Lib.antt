pub mod Forms
pub mod Input
pub mod Play
pub mod Tags
pub mod Written
pub mod Serves
pub mod Answers
