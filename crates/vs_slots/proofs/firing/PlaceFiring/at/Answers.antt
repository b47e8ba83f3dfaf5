use Rattle.std.proofs.Common.{ℕ, ◌↔◌, List, sym, subst}
use Rattle.std.specs.List.{Contains}
use Rattle.std.proofs.lemmas.Result.{IfOk-weaker}
use Rattle.vs_slots.specs.Firing.{InPhaseOf}
use Rattle.vs_slots.specs.Kept.{IsSiteFiring}
use Rattle.vs_slots.proofs.firing.PlaceFiring.at.Goals as goal

pub returns : goal.returns
returns c =
    let s = c.args.self.now in
    let writes = c.in_ok-writes.ensures.0 c.if-not-branch.false in
    IfOk-weaker c.phased.result
    (λ list. (r : ℕ) → (Contains list.items r ↔ (Contains c.deref.result.now r × InPhaseOf s.clock s.edge s.modulus r)))
    (λ list. (r : ℕ) → (Contains list.items r ↔ IsSiteFiring s.tables.now s.runs.now s.clock s.modulus s.root s.edge s.writer c.args.site r))
    (λ list h r. (
      λ x. let y = (h r).0 x in
          (writes.0, writes.1, writes.2, (c.in_ok-runs.ensures r).0 (subst (λ (l : List ℕ). Contains l r) c.deref.ensures.value y.0), y.1),
      λ y. (h r).1 (subst (λ (l : List ℕ). Contains l r) (sym c.deref.ensures.value) ((c.in_ok-runs.ensures r).1 y.3), y.4),
    ))
    c.phased.ensures
