pub mod PieceLemmas
pub mod ValueLemmas
