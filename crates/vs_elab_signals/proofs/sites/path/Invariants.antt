use Rattle.std.proofs.Common.{◌≡◌, ◌+◌, ◌≤◌, List, Some, slice_get}
use Rattle.vs_scopes.specs.Scopes.{Scope}
use Rattle.vs_elab_signals.specs.Opened.{AreOpened}
use Rattle.vs_elab_signals.proofs.SiteLemmas.{Climbs}
use Rattle.vs_elab_signals.proofs.sites.path.Given as goal

abbrev pub invariant-loop-step : goal.invariant-loop-step
invariant-loop-step l = record {
  before : l.at + l._step ≤ l.place;
  climbs : (ss : List Scope) (s : Scope) → AreOpened l.list ss → slice_get ss l.place ≡ Some s → Climbs ss s l.at l.titles.items;
}
