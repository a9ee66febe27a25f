pub mod CallOpened
pub mod NestOpened
pub mod RunOpened
