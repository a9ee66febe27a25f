pub mod TakeOrder
pub mod Marks
pub mod Counts
pub mod Bits
pub mod Sets
pub mod Summed
