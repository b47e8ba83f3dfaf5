use Rattle.std.proofs.Common.{◌≡◌, ◌++◌, map, drop}
use Rattle.vs_elab_statements.specs.Statements.{level_term}
use Rattle.vs_elab_statements.proofs.events.level_terms.Given as goal

abbrev pub invariant-loop-range : goal.invariant-loop-range
invariant-loop-range l = l.done.items ++ map level_term (drop l.range-index l.range-items) ≡ map level_term l.range-items
