use Rattle.std.proofs.Common.{◌≡◌, ◌++◌, map, take}
use Rattle.vs_claims.specs.vs_rules.specs.Verdict.{listed}
use Rattle.vs_claims.specs.Places.{texts}
use Rattle.vs_claims.specs.Subjects.{subject_view}
use Rattle.vs_claims.proofs.subjects.push_names.Given as goal

abbrev pub invariant-loop-name : goal.invariant-loop-name
invariant-loop-name l = map subject_view l.out.items ≡ map subject_view l.fn.out.items ++ map listed (texts (take l.name-index l.names))
