pub mod LockTable
pub mod Summary
