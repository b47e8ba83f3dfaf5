pub mod Places
pub mod Settled
pub mod Rules
pub mod Gathered
pub mod Written
pub mod Made
