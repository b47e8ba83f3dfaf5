use Rattle.std.proofs.Common.{◌≡◌, ◌++◌, drop}
use Rattle.vs_run_active.specs.Watchers.{kind_watchers}
use Rattle.vs_run_active.proofs.watchers.add_kind.Given as goal

abbrev pub invariant-loop-term : goal.invariant-loop-term
invariant-loop-term l = l.watchers.items ++ kind_watchers l.edge (drop l.term-index l.terms) ≡ l.fn.watchers.items ++ kind_watchers l.edge l.terms
