pub mod CertifiedLemmas
pub mod LinesLemmas
pub mod TraceLemmas
mod DisplayLemmas
mod RowLemmas
mod SilentLemmas
mod StrobeLemmas
mod GiveLemmas
mod PrintLemmas
mod UnequalLemmas
mod ValueLemmas
mod RaceLemmas
