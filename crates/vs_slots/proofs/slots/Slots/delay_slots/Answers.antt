use Rattle.std.proofs.Common.{ℕ, ◌↔◌, List, subst}
use Rattle.std.specs.List.{Contains}
use Rattle.std.proofs.lemmas.Result.{IfOk-weaker}
use Rattle.vs_claims.specs.Facts.{Case}
use Rattle.vs_slots.specs.declared.runs.Runs.{Runs}
use Rattle.vs_slots.specs.Kept.{IsRunIn}
use Rattle.vs_slots.specs.Places.{DelayRunsOf}
use Rattle.vs_slots.specs.Runs.{DelayPauseEnds}
use Rattle.vs_slots.proofs.KeptLemmas.{kept_runs}
use Rattle.vs_slots.proofs.slots.Slots.delay_slots.Goals as goal

pub returns : goal.returns
returns c =
    let f = c.self.inside.facts.now in
    let waiting = c.self.inside.delays.items in
    IfOk-weaker c.runs_at.result
    (λ all. (r : ℕ) → (Contains all.items r ↔ IsRunIn c.deref.result.now c.args.i c.args.place r))
    (λ all. DelayRunsOf c.args.self.now c.args.i c.args.place all.items)
    (λ all h. subst (λ (g : Case). DelayRunsOf g c.args.i c.args.place all.items) c.self.view_is (λ t r is within.
    let both = kept_runs DelayPauseEnds f waiting c.args.i t c.self.invariant.maps_are c.self.invariant.runs_are.waiting_are is c.args.place r within in
    let kept = subst (λ (l : List Runs). (Contains all.items r ↔ IsRunIn l c.args.i c.args.place r)) c.deref.ensures.value (h r) in
    (λ x. both.0 (kept.0 x), λ y. kept.1 (both.1 y))))
    c.runs_at.ensures
