pub mod ConstantLemmas
pub mod OtherLemmas
pub mod WholeLemmas
pub mod Cores
pub mod ClockLemmas
pub mod TurnLemmas
