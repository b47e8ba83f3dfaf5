pub mod Meaning
pub mod Wired
pub mod Judged
pub mod Asked
pub mod BrokenLemmas
pub mod SubjectLemmas
pub mod Verdicts
