use Rattle.std.proofs.Common.{◌≡◌, ◌++◌, map}
use Rattle.vs_claims.specs.vs_rules.specs.Verdict.{numbers, process}
use Rattle.vs_claims.specs.Subjects.{subject_view}
use Rattle.vs_claims.proofs.subjects.push_processes.Given as goal

abbrev pub invariant-loop-i : goal.invariant-loop-i
invariant-loop-i l = map subject_view l.out.items ≡ map subject_view l.fn.out.items ++ map process (numbers 0 l.i)
