use Rattle.std.proofs.Common.{ℕ, ◌↔◌, Option, None, get_or, refl, sym, subst}
use Rattle.std.specs.List.{Contains}
use Rattle.std.proofs.lemmas.Result.{IfOk-weaker}
use Rattle.vs_maps.specs.vs_rules.specs.Claims.{IsRoot}
use Rattle.vs_slots_constants.specs.declared.clocks.Clock.{Clock}
use Rattle.vs_slots.specs.Kept.{IsFiringOf}
use Rattle.vs_slots.proofs.roots.RootFiringListing.list.Goals as goal

pub returns : goal.returns
returns c =
    let s = c.args.self.now in
    let f = s.facts.now in
    let i = c.args.i in
    let root : IsRoot f.design f.claims i = c.if-not-is_root.ensures.0 refl in
    IfOk-weaker c.fires_of.result
    (λ list. (r : ℕ) → (Contains list.items r ↔ IsFiringOf f s.runs.now c.clock_at-clock.result i s.edge r))
    (λ list. (r : ℕ) → (Contains list.items r ↔ (IsRoot f.design f.claims i × IsFiringOf f s.runs.now (get_or s.clocks.now i None) i s.edge r)))
    (λ list h r. (
      λ x. (root, subst (λ (o : Option Clock). IsFiringOf f s.runs.now o i s.edge r) c.clock_at-clock.ensures ((h r).0 x)),
      λ y. (h r).1 (subst (λ (o : Option Clock). IsFiringOf f s.runs.now o i s.edge r) (sym c.clock_at-clock.ensures) y.1),
    ))
    c.fires_of.ensures
