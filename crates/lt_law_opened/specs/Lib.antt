pub mod PromiseOpened
pub mod WaitsOpened
