pub mod Answers
pub mod Operators
pub mod Heads
pub mod Lists
pub mod Parts
pub mod Blocks
pub mod Tasks
