pub mod Refused
pub mod Desks
pub mod Over
pub mod Places
pub mod Taking
pub mod Served
pub mod Texts
