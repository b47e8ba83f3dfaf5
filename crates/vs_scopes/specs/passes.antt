-- What the functions of this crate and of those above tell one another: nothing that is promised rests on these.
pub mod Ends
