use Rattle.std.proofs.Common.{ℕ, ◌↔◌, List, subst}
use Rattle.std.specs.List.{Contains}
use Rattle.std.proofs.lemmas.Result.{IfOk-weaker}
use Rattle.vs_claims.specs.Facts.{Case}
use Rattle.vs_slots.specs.declared.runs.Runs.{Runs}
use Rattle.vs_slots.specs.Kept.{IsKeptRun}
use Rattle.vs_slots.specs.Places.{RunsOf}
use Rattle.vs_slots.proofs.KeptLemmas.{kept_run}
use Rattle.vs_slots.proofs.slots.Slots.run_slots.Goals as goal

pub returns : goal.returns
returns c =
    let f = c.self.inside.facts.now in
    let waiting = c.self.inside.delays.items in
    let fired = c.self.inside.edges.items in
    IfOk-weaker c.run_slots.result
    (λ all. (r : ℕ) → (Contains all.items r ↔ IsKeptRun c.deref.result.now c.deref-2.result.now c.args.i c.args.place r))
    (λ all. RunsOf c.args.self.now c.args.i c.args.place all.items)
    (λ all h. subst (λ (g : Case). RunsOf g c.args.i c.args.place all.items) c.self.view_is (λ t r is within.
    let both = kept_run f waiting fired c.args.i t c.self.invariant.maps_are c.self.invariant.runs_are is c.args.place r within in
    let kept = subst (λ (l : List Runs). (Contains all.items r ↔ IsKeptRun waiting l c.args.i c.args.place r)) c.deref-2.ensures.value
    (subst (λ (l : List Runs). (Contains all.items r ↔ IsKeptRun l c.deref-2.result.now c.args.i c.args.place r)) c.deref.ensures.value (h r)) in
    (λ x. both.0 (kept.0 x), λ y. kept.1 (both.1 y))))
    c.run_slots.ensures
