use Rattle.std.proofs.Common.{ℕ, ◌↔◌, List, refl, sym, subst}
use Rattle.std.specs.List.{Contains}
use Rattle.std.proofs.lemmas.Bool.{false≢true}
use Rattle.vs_claims.specs.Facts.{Case}
use Rattle.vs_rules.specs.Claims.{IsMixed, IsRootOf}
use Rattle.vs_rules_of_processes.proofs.readings.Reader.is_undelayed.Goals as goal

pub returns-then-not-is_mixed : goal.returns-then-not-is_mixed
returns-then-not-is_mixed c =
    let s = c.args.self.now in (
      λ t mixed. absurd (false≢true (c.if-not-is_mixed.ensures.1 (subst (λ (g : Case). IsMixed g.design g.claims s.process) (sym c.facts-facts.ensures) mixed))),
      λ h. refl,
    )

pub returns : goal.returns
returns c =
    let s = c.args.self.now in
    let v = c.args.v in
    let run = λ (r : ℕ). c.in_ok-runs.ensures s.tables.now r c.requires.is_chart c.requires.place in
    let listed = subst (λ (g : Case). (r : ℕ) → (Contains c.in_ok-roots.roots.items r ↔ IsRootOf g.design g.claims r v)) c.facts-facts.ensures c.in_ok-roots.ensures in
    let kind = subst (λ (g : Case). IsMixed g.design g.claims s.process) c.facts-facts.ensures (c.if-not-is_mixed.ensures.0 refl) in (
      λ t mixed root r is_root slot has. c.none_written.ensures.0 t root (subst (λ (l : List ℕ). Contains l root) (sym c.deref.ensures.value) ((listed root).1 is_root)) r slot
          (subst (λ (l : List ℕ). Contains l r) (sym c.deref-2.ensures.value) ((run r).1 has)),
      λ h. c.none_written.ensures.1 (λ root m r slot has. h kind root r ((listed root).0 (subst (λ (l : List ℕ). Contains l root) c.deref.ensures.value m)) slot
          ((run r).0 (subst (λ (l : List ℕ). Contains l r) c.deref-2.ensures.value has))),
    )
