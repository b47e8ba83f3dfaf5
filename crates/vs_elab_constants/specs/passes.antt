-- What the functions of this crate tell one another and the ones above: nothing that is promised rests on these.
pub mod Early
pub mod Values
pub mod Finding
