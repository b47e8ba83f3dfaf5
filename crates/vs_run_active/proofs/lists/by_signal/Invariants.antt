use Rattle.std.proofs.Common.{◌≡◌, drop}
use Rattle.vs_design.specs.Tables.{empty_rows, rows}
use Rattle.vs_run_active.specs.Lists.{all_noted}
use Rattle.vs_run_active.proofs.lists.by_signal.Given as goal

abbrev pub invariant-loop-term : goal.invariant-loop-term
invariant-loop-term l = all_noted (drop l.term-index l.terms) (rows l.lists.items) ≡ all_noted l.terms (empty_rows l.signals)
