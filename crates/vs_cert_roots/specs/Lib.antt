pub mod Entries
pub mod Roots
pub mod First
