pub mod Files
pub mod Limits
pub mod Places
pub mod passes
