pub mod Printed
pub mod Unequal
pub mod Sightings
