use Rattle.std.proofs.Common.{◌≡◌, ◌+◌, ◌≤◌, List, Some, slice_get}
use Rattle.vs_elab_signals.specs.vs_widths.specs.Names.{nested_names}
use Rattle.vs_scopes.specs.Scopes.{Scope}
use Rattle.vs_elab_signals.specs.Opened.{AreOpened}
use Rattle.vs_elab_signals.proofs.SiteLemmas.{Gathers}
use Rattle.vs_elab_signals.proofs.sites.names_outward.Given as goal

abbrev pub invariant-loop-step : goal.invariant-loop-step
invariant-loop-step l = record {
  before : l.at + l._step ≤ l.place;
  gathers : (ss : List Scope) (s : Scope) → AreOpened l.list ss → slice_get ss l.place ≡ Some s → Gathers ss s l.at (nested_names l.levels.items);
}
