mod Commands
mod Given
mod MomentLemmas
mod Rows
mod Tables
pub mod VainLemmas
mod Indexed
mod TopsLemmas
mod UsesLemmas
mod TargetLemmas
mod TickLemmas
