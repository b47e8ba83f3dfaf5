use Rattle.std.proofs.Common.{◌≡◌, map}
use Rattle.vs_rules_of_starts.specs.vs_rules.specs.Claims.{blocks_of}
use Rattle.vs_rules_of_starts.specs.vs_rules.specs.Verdict.{numbers}
use Rattle.vs_cert_check.proofs.judging.block_marks.Given as goal

abbrev pub invariant-loop-i : goal.invariant-loop-i
invariant-loop-i l = l.marks.items ≡ map (blocks_of l.facts.design l.facts.claims) (numbers 0 l.i)
