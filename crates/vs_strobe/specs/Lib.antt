pub mod Pieces
pub mod Values
pub mod Lines
pub use Rattle.vs_eval
