pub mod EntryLemmas
pub mod TermLemmas
pub mod HotLemmas
pub mod FirstLemmas
pub mod SeenLemmas
pub mod FirstRows
