use Rattle.std.proofs.Common.{◌≡◌, ◌+◌, ◌≤◌, List, Some, slice_get}
use Rattle.vs_scopes.specs.Scopes.{Scope}
use Rattle.vs_elab_signals.specs.Opened.{AreOpened}
use Rattle.vs_elab_signals.proofs.SightLemmas.{Sees}
use Rattle.vs_elab_signals.proofs.sights.sight_at.Given as goal

abbrev pub invariant-loop-step : goal.invariant-loop-step
invariant-loop-step l = record {
  before : l.at + l._step ≤ l.place;
  sees : (ss : List Scope) (s : Scope) → AreOpened l.list ss → slice_get ss l.place ≡ Some s → Sees ss s l.piece l.name l.at l.from;
}
