-- What the functions of this crate tell one another: nothing that is promised rests on these.
pub mod Sites
pub mod Sights
pub mod Naming
pub mod Declaring
pub mod Connecting
