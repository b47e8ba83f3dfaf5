pub use Rattle.vs_program_words.specs.Asks
pub use Rattle.vs_program_words.specs.Options
pub mod Ends
pub mod Inputs
pub mod Races
pub mod Statuses
pub mod Texts
pub mod passes
