pub mod Account
pub mod AccountSteps
pub mod AccountPlay
pub mod News
