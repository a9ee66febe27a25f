pub mod NoForm
pub mod Forms
pub mod Counted
