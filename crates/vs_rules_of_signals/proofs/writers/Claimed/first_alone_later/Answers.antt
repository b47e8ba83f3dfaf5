use Rattle.std.proofs.Common.{◌≡◌, ◌<◌, ◌↔◌, Bool, IsTrue, refl, sym, subst}
use Rattle.std.proofs.lemmas.Bool.{false≢true}
use Rattle.vs_maps.specs.vs_rules.specs.Claims.{IsSecond, IsWriter, claim_of, second_in, writer_in}
use Rattle.vs_maps.specs.Texts.{AllLater}
use Rattle.vs_claims.specs.vs_maps.specs.Reaches.{InSlot0, places}
use Rattle.vs_rules_of_signals.specs.Writers.{FirstAloneLater}
use Rattle.vs_rules_of_signals.proofs.Here.{named_here}
use Rattle.vs_rules_of_signals.proofs.Parts.{at_map, granted, later_part, no_later, same_one, some_later}
use Rattle.vs_rules_of_signals.proofs.writers.Claimed.first_alone_later.Goals as goal

pub returns-then-all_later : goal.returns-then-all_later
returns-then-all_later c =
    let x = c.args.self.now.facts.now in
    let s = c.in-Some.second in
    let j = c.in-Some-writer.process in
    let t = c.in-Some-tables.tables.now in
    let second : IsSecond x.design x.claims c.args.v s = (c.in-Some.ensures s).1 refl in
    let writer : IsWriter x.design x.claims c.args.v j = (c.in-Some-writer.ensures j).1 refl in
    let g = named_here x.design x.charts c.maps.ensures (second_in (claim_of x.design x.claims c.args.v)) s second in
    granted (FirstAloneLater x.design x.claims c.args.v)
    (no_later x.design x.claims x.charts s c.args.v c.args.self.now.uses.now c.args.self.now.same g (same_one (IsSecond x.design x.claims c.args.v) _ s refl c.in-Some.ensures)
    (c.if-all_later.ensures.0 refl))

pub returns : goal.returns
returns c =
    let x = c.args.self.now.facts.now in
    let s = c.in-Some.second in
    let j = c.in-Some-writer.process in
    let t = c.in-Some-tables.tables.now in
    let second : IsSecond x.design x.claims c.args.v s = (c.in-Some.ensures s).1 refl in
    let writer : IsWriter x.design x.claims c.args.v j = (c.in-Some-writer.ensures j).1 refl in
    let g = named_here x.design x.charts c.maps.ensures (second_in (claim_of x.design x.claims c.args.v)) s second in
    let h = at_map x.design x.charts c.maps.ensures (writer_in (claim_of x.design x.claims c.args.v)) j writer t (sym c.in-Some-tables.ensures) in
    let exact = subst (λ (wide : Bool). (IsTrue c.all_later-2.result ↔ AllLater c.args.self.now.uses.now c.args.v (λ k p. k ≡ j → p < places t → InSlot0 wide t p → ⊥))) c.is_wide.ensures
    c.all_later-2.ensures in (
      λ told. later_part x.design x.claims x.charts j c.args.v c.args.self.now.uses.now c.args.self.now.same h
          (same_one (IsWriter x.design x.claims c.args.v) _ j refl c.in-Some-writer.ensures) (exact.0 told),
      λ alone. exact.1 (some_later x.design x.claims x.charts s j c.args.v c.args.self.now.uses.now c.args.self.now.same g h second writer
          (λ all. false≢true (c.if-all_later.ensures.1 all)) alone),
    )
