pub mod Kept
pub mod Proposing
pub mod Reading
pub mod Telling
