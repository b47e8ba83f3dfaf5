pub mod Buffers
pub mod Files
