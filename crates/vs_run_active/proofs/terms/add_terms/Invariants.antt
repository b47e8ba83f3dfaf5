use Rattle.std.proofs.Common.{◌≡◌, ◌++◌, map, drop}
use Rattle.vs_run_active.specs.Terms.{process_term}
use Rattle.vs_run_active.proofs.terms.add_terms.Given as goal

abbrev pub invariant-loop-term : goal.invariant-loop-term
invariant-loop-term l = l.all.items ++ map (process_term l.process l.control) (drop l.term-index l.terms) ≡ l.fn.all.items ++ map (process_term l.process l.control) l.terms
