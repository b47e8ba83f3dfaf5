-- What the functions of this crate and of those above it tell one another: nothing that is promised rests on these.
pub mod Measures
pub mod Places
