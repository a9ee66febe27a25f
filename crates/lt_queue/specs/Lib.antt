pub mod QueueData
