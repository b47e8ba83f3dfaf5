use Rattle.std.proofs.Common.{◌≡◌, length}
use Rattle.vs_run_active.specs.Rows.{AreRows}
use Rattle.vs_run_active.specs.Words.{AreByWord}
use Rattle.vs_run_active.proofs.tables.Tables.of.Given as goal

abbrev pub invariant-loop-signal : goal.invariant-loop-signal
invariant-loop-signal l = record {
  rows : AreRows l.signal l.design.assigns l.terms l.groups l.rows.items l.watchers.items;
  words : AreByWord l.rows.items l.watchers.items l.words.items;
  size : length l.words.items ≡ l.signal;
}
