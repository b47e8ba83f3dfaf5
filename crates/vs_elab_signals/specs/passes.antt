-- What the functions of this crate tell one another: nothing that is promised rests on these.
pub mod Counting
pub mod Strays
