pub mod passes
pub use Rattle.vs_widths
pub mod Reads
pub mod generate_passes
