pub mod CornerLemmas
pub mod Gathered
pub mod Open
pub mod BlockLemmas
pub mod Points
pub mod EarlyLemmas
pub mod StartLemmas
pub mod ClearLemmas
