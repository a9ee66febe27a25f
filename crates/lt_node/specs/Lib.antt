pub mod NodeData
pub mod Clients
pub mod Marks
pub mod Forgetting
pub mod Sets
pub mod Touched
