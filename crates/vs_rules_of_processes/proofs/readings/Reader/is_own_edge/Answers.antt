use Rattle.std.proofs.Common.{◌↔◌, List, sym, ◌∙◌, subst}
use Rattle.std.specs.List.{Contains}
use Rattle.std.proofs.lemmas.Bool.{false≢true}
use Rattle.vs_design.specs.declared.statement.EventTerm.{EventTerm}
use Rattle.vs_claims.specs.vs_maps.specs.Ranges.{HasTermAt}
use Rattle.vs_rules_of_processes.proofs.readings.Reader.is_own_edge.Goals as goal

pub returns-then-not-own : goal.returns-then-not-own
returns-then-not-own c = (
  λ t. absurd (false≢true t),
  λ y. let x = y.0 in sym c.if-not-own.true ∙ c.has_edge-own.ensures.1 (x.0, subst (λ (l : List EventTerm). Contains l x.0) (sym c.deref.ensures.value) ((c.in_ok-terms.ensures x.0).1 x.1), (x.2, x.3)),
)

pub are_roots_apart-requires : goal.are_roots_apart-requires
are_roots_apart-requires c = subst (λ (l : List EventTerm). (x : EventTerm) → (Contains l x ↔ HasTermAt c.args.self.now.tables.now x)) (sym c.deref-2.ensures.value) c.in_ok-terms.ensures

pub returns : goal.returns
returns c =
    let x = c.has_edge-own.ensures.0 c.if-not-own.false in
    let has = (c.in_ok-terms.ensures x.0).0 (subst (λ (l : List EventTerm). Contains l x.0) c.deref.ensures.value x.1) in
    (λ t. ((x.0, has, x.2.0, x.2.1), c.in_ok-apart.ensures.0 c.if-not-apart.false, c.in_ok-undelayed.ensures.0 t), λ y. c.in_ok-undelayed.ensures.1 y.2)

pub returns-then-not-apart : goal.returns-then-not-apart
returns-then-not-apart c = (λ t. absurd (false≢true t), λ y. sym c.if-not-apart.true ∙ c.in_ok-apart.ensures.1 y.1)
