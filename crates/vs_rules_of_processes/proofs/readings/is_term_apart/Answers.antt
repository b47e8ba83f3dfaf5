use Rattle.std.proofs.Common.{ℕ, List, refl, sym, subst}
use Rattle.std.specs.List.{Contains}
use Rattle.std.proofs.lemmas.Bool.{false≢true}
use Rattle.vs_design.specs.declared.statement.EventTerm.{EventTerm}
use Rattle.vs_rules.specs.Claims.{IsRootOf}
use Rattle.vs_rules.specs.Slots.{Fires}
use Rattle.vs_claims.specs.Facts.{Case}
use Rattle.vs_design.specs.vs_logic4.proofs.Basics.{one_in as only_in}
use Rattle.vs_rules_of_processes.proofs.PairLemmas.{in_only}
use Rattle.vs_rules_of_processes.proofs.readings.is_term_apart.Goals as goal

pub returns-then-all_are : goal.returns-then-all_are
returns-then-all_are c = (
  λ t other r is_root w f. c.if-all_are.ensures.0 refl other (subst (λ (l : List ℕ). Contains l other) (sym c.deref.ensures.value)
      ((c.in_ok-others.ensures other).1 (subst (λ (g : Case). IsRootOf g.design g.claims other c.args.term.range.signal) (sym c.facts.ensures) is_root))),
  λ h. refl,
)

pub returns : goal.returns
returns c =
    let f = c.args.slots.now in
    let term = c.args.term in (
      λ t other r is_root w fire. absurd (c.are_apart-apart.ensures.0 t r ((c.write_slots.ensures r).1 w)
          (subst (λ (l : List ℕ). Contains l r) (sym c.deref-2.ensures.value) ((c.in_ok-fires.ensures r).1 (term, in_only term, fire)))),
      λ h. c.are_apart-apart.ensures.1 (λ r w fire.
          let y = (c.in_ok-fires.ensures r).0 (subst (λ (l : List ℕ). Contains l r) c.deref-2.ensures.value fire) in
          let fires : Fires f.design f.claims term r = subst (λ (t : EventTerm). Fires f.design f.claims t r) (sym (only_in term y.0 y.1)) y.2 in
          false≢true (c.if-all_are.ensures.1 (λ y m. h y r (subst (λ (g : Case). IsRootOf g.design g.claims y term.range.signal) c.facts.ensures
          ((c.in_ok-others.ensures y).0 (subst (λ (l : List ℕ). Contains l y) c.deref.ensures.value m))) ((c.write_slots.ensures r).0 w) fires))),
    )
