-- What the functions of this crate and of the one above tell one another: nothing that is promised rests on these.
pub mod Forms
