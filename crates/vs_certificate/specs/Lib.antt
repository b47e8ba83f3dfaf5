pub mod JsonValue
pub mod Shape
pub mod Versions
pub mod Limits
pub mod Reading
pub mod Sameness
