use Rattle.std.proofs.Common.{ℕ, inl, inr, refl, sym, ◌∙◌}
use Rattle.vs_claims.specs.vs_rules.specs.Claims.{IsSignalNamed, IsAssignNamed, IsProcessNamed}
use Rattle.vs_claims.proofs.NameLemmas.{some_named, none_named, last_named}
use Rattle.vs_claims.proofs.rule.keeps_name.Goals as goal

pub returns-then-is_some : goal.returns-then-is_some
returns-then-is_some c =
    let name = c.args.name.now in (
      λ h. inl (some_named (λ v. IsSignalNamed c.args.facts.now.design v name) c.signal_named.result c.signal_named.ensures (sym c.is_some.ensures ∙ c.if-is_some.true)),
      λ h. refl,
    )

pub returns-then-is_some-2 : goal.returns-then-is_some-2
returns-then-is_some-2 c =
    let name = c.args.name.now in (
      λ h. inr (inl (some_named (λ j. IsAssignNamed c.args.facts.now.design j name) c.assign_named.result c.assign_named.ensures
          (sym c.is_some-2.ensures ∙ c.if-is_some-2.true))),
      λ h. refl,
    )

pub returns : goal.returns
returns c =
    let d = c.args.facts.now.design in
    let name = c.args.name.now in
    let last = last_named ((v : ℕ) × IsSignalNamed d v name) ((j : ℕ) × IsAssignNamed d j name) (λ i. IsProcessNamed d i name)
    c.process_named.result c.process_named.ensures
    (none_named (λ v. IsSignalNamed d v name) c.signal_named.result c.signal_named.ensures (sym c.is_some.ensures ∙ c.if-is_some.false))
    (none_named (λ j. IsAssignNamed d j name) c.assign_named.result c.assign_named.ensures (sym c.is_some-2.ensures ∙ c.if-is_some-2.false)) in
    (λ e. last.0 (sym c.is_some-3.ensures ∙ e), λ h. c.is_some-3.ensures ∙ last.1 h)
