pub mod ChangedLemmas
pub mod ListCountLemmas
pub mod GoneLemmas
pub mod ProcessPlacesLemmas
pub mod TakenLemmas
pub mod TimelinesLemmas
pub mod ChangesLemmas
pub mod MarkingLemmas
pub mod TouchesLemmas
pub mod WaitsLemmas
pub mod GroupsLemmas
mod ListsLemmas
pub mod RowsLemmas
pub mod TablesLemmas
mod TermsLemmas
mod WordsLemmas
mod EdgesExist
mod LeftLemmas
mod MasksTell
mod SeeingLemmas
mod WakesLemmas
mod WakingLemmas
mod WalksLemmas
pub mod WatchedLemmas
