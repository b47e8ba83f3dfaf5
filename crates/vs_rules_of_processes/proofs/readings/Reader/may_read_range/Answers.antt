use Rattle.std.proofs.Common.{ℕ, List, inr, refl, sym, subst}
use Rattle.std.specs.List.{Contains}
use Rattle.vs_rules_of_processes.proofs.readings.Reader.may_read_range.Goals as goal

pub returns-then-clear : goal.returns-then-clear
returns-then-clear c = (λ t u blocking cone. inr (inr (c.in_ok-clear.ensures c.if-clear.true u c.args.range refl cone)), λ h. refl)

pub returns : goal.returns
returns c =
    let f = c.args.self.now.slots.now in
    let listed = c.in_ok-sources.ensures f.design f.claims c.requires.wiring in (
      λ t u blocking cone. c.in_ok-all.ensures.0 t u (subst (λ (l : List ℕ). Contains l u) (sym c.deref.ensures.value) ((listed u).1 (blocking, cone))),
      λ h. c.in_ok-all.ensures.1 (λ u m. let y = (listed u).0 (subst (λ (l : List ℕ). Contains l u) c.deref.ensures.value m) in h u y.0 y.1),
    )
