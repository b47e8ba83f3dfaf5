mod ListLemmas
mod ForwardLemmas
mod ClassLemmas
pub mod EdgeLemmas
pub mod ReadingLemmas
pub mod PairLemmas
mod HungLemmas
mod PlaceLemmas
mod FirstReads
mod SlotLemmas
pub mod ByNumber
pub mod ResidueLemmas
pub mod Shifts
pub mod Kept
pub mod Here
pub mod ArrivalLemmas
