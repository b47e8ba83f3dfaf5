use Rattle.std.proofs.Common.{◌≡◌, drop}
use Rattle.vs_design.specs.Tables.{rows, all_heard}
use Rattle.vs_design.proofs.listeners.note_all.Given as goal

abbrev pub invariant-loop-term : goal.invariant-loop-term
invariant-loop-term l = all_heard l.process (drop l.term-index l.terms) (rows l.table.items) ≡ all_heard l.process l.terms (rows l.fn.table.items)
