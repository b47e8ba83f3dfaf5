use Rattle.std.proofs.Common.{◌≡◌, length, drop}
use Rattle.vs_run_steps.specs.Writes.{AreNamed}
use Rattle.vs_run_steps.proofs.WritesLemmas.{LeftToFollow}
use Rattle.vs_run_steps.proofs.writes.Watched.wake_changes.Given as goal

abbrev pub invariant-loop-change : goal.invariant-loop-change
invariant-loop-change l = record {
  named : AreNamed (length l.self.tables.rows.items) (drop l.change-index l.changes.items);
  store : l.self.store ≡ l.fn.self.store;
  tables : l.self.tables ≡ l.fn.self.tables;
  marks : l.self.marks ≡ l.fn.self.marks;
  left : LeftToFollow l.fn.self.tables l.changes.items (drop l.change-index l.changes.items) l.fn.self.events.assigns l.self.events.assigns l.fn.self.events.processes l.self.events.processes;
}
