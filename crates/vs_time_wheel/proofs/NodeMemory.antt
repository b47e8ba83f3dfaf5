pub mod Chained
pub mod Linking
pub mod OfVacant
pub mod Pairs
pub mod Steps
