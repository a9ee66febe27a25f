pub mod LinksData
pub mod Routes
