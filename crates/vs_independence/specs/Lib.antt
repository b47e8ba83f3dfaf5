pub mod Discipline
pub mod Displays
pub use Rattle.vs_process
pub mod RuleLaws
