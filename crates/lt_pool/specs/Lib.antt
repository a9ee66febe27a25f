pub mod History
pub mod Rule
pub mod PoolData
pub mod Views
pub mod Steps
pub mod PoolLaws
