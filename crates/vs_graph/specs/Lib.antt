pub mod Reached
pub mod Rows
pub mod Owed
pub mod Verdicts
pub mod Clear
pub mod Numbers
pub mod Order
pub mod Sorting
