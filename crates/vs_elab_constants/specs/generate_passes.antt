pub mod Turns
pub mod Branches
pub mod Numbering
pub mod Opening
