use Rattle.std.proofs.Common.{◌≡◌, ◌++◌, map}
use Rattle.vs_claims.specs.vs_rules.specs.Verdict.{numbers, assign}
use Rattle.vs_claims.specs.Subjects.{subject_view}
use Rattle.vs_claims.proofs.subjects.push_assigns.Given as goal

abbrev pub invariant-loop-j : goal.invariant-loop-j
invariant-loop-j l = map subject_view l.out.items ≡ map subject_view l.fn.out.items ++ map assign (numbers 0 l.j)
