pub mod Points
pub mod Texts
pub mod Past
pub mod Places
pub mod Copies
pub mod Tested
