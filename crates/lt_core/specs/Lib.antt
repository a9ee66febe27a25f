pub mod CoreData
pub mod Steps
pub mod Bound
pub mod Behind
