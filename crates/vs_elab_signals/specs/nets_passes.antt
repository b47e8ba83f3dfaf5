-- What the functions of this crate tell those above: nothing that is promised rests on these.
pub mod Nets
