pub mod Shown
pub mod Written
pub mod NodeTexts
pub mod AllTexts
pub mod Inputs
pub mod Refusals
pub mod Worked
