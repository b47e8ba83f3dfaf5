use Rattle.std.proofs.Common.{◌≡◌, ◌++◌, map}
use Rattle.vs_claims.specs.vs_rules.specs.Verdict.{numbers, signal}
use Rattle.vs_claims.specs.Subjects.{subject_view}
use Rattle.vs_claims.proofs.subjects.push_signals.Given as goal

abbrev pub invariant-loop-v : goal.invariant-loop-v
invariant-loop-v l = map subject_view l.out.items ≡ map subject_view l.fn.out.items ++ map signal (numbers 0 l.v)
