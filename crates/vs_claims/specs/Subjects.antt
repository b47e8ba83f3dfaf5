-- Subjects of rules, as they are kept.
use Rattle.vs_claims.specs.vs_rules.specs.Verdict.{Subject, signal, assign, process, listed}
use Rattle.vs_claims.specs.declared.subjects.Subject as kept
use Rattle.vs_claims.specs.declared.subjects.Subject.TheVariants as subjects

-- a subject, as it is kept
abbrev pub subject_view : kept.Subject → Subject
subject_view (subjects.Signal v) = signal v
subject_view (subjects.Assign j) = assign j
subject_view (subjects.Process i) = process i
subject_view (subjects.Listed name) = listed name.now
