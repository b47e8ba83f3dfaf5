use Rattle.std.proofs.Common.{◌≡◌, ◌<◌, ◌↔◌, Bool, IsTrue, refl, sym, subst}
use Rattle.vs_claims.specs.vs_maps.specs.Reaches.{InSlot0, places}
use Rattle.vs_maps.specs.vs_rules.specs.Claims.{IsSecond, IsWriter, claim_of, writer_in}
use Rattle.vs_maps.specs.Texts.{AllNow}
use Rattle.vs_rules_of_signals.proofs.Parts.{at_map, first_part, same_one}
use Rattle.vs_rules_of_signals.proofs.writers.Claimed.first_alone.Goals as goal

pub returns : goal.returns
returns c =
    let x = c.args.self.now.facts.now in
    let s = c.in-Some.field-0 in
    let j = c.in-Some-writer.process in
    let t = c.in-Some-tables.tables.now in
    let second : IsSecond x.design x.claims c.args.v s = (c.in-Some.ensures s).1 refl in
    let writer : IsWriter x.design x.claims c.args.v j = (c.in-Some-writer.ensures j).1 refl in
    let part = first_part x.design x.claims x.charts s j c.args.v c.args.self.now.uses.now c.args.self.now.same
    (at_map x.design x.charts c.maps.ensures (writer_in (claim_of x.design x.claims c.args.v)) j writer t (sym c.in-Some-tables.ensures)) second writer
    (same_one (IsWriter x.design x.claims c.args.v) _ j refl c.in-Some-writer.ensures) in
    let exact = subst (λ (wide : Bool). (IsTrue c.all_now.result ↔ AllNow c.args.self.now.uses.now c.args.v (λ k p. k ≡ j → p < places t → InSlot0 wide t p → ⊥))) c.is_wide.ensures
    c.all_now.ensures in
    (λ told. part.1 (exact.0 told), λ alone. exact.1 (part.0 alone))
