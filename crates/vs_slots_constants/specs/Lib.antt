pub mod Givings
pub mod Wholes
pub mod Inverted
pub mod Clocks
pub use Rattle.vs_rules
