pub mod Grammar
pub mod Apps
