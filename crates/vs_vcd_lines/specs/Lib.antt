pub mod Cuts
pub mod Names
pub mod Lines
pub mod Parts
pub mod Laws
pub use Rattle.vs_vcd_writing
pub mod Beginnings
pub mod BeginningsParts
