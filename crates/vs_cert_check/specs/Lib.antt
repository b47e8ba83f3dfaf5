pub mod Verdicts
pub mod Answers
pub mod Broken
pub mod Marks
pub mod Sheets
pub mod Means
pub use Rattle.vs_rules_of_starts.specs.vs_rules
