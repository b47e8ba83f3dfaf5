use Rattle.std.proofs.Common.{◌≡◌, Some, slice_get, refl, sym, subst}
use Rattle.vs_maps.specs.vs_rules.specs.Claims.{IsSecond, claim_of, second_in}
use Rattle.vs_maps.specs.Texts.{Texts}
use Rattle.vs_rules_of_signals.proofs.Here.{named_here}
use Rattle.vs_rules_of_signals.proofs.Parts.{early_parts, same_one}
use Rattle.vs_rules_of_signals.proofs.writers.Claimed.is_early.Goals as goal

pub returns : goal.returns
returns c =
    let x = c.args.self.now.facts.now in
    let i = c.in-Some.process in
    let second : IsSecond x.design x.claims c.args.v i = (c.in-Some.ensures i).1 refl in
    let h = named_here x.design x.charts c.maps.ensures (second_in (claim_of x.design x.claims c.args.v)) i second in
    let parts = early_parts x.design x.claims x.charts i c.args.v c.args.self.now.uses.now c.args.self.now.same h second
    (same_one (IsSecond x.design x.claims c.args.v) _ i refl c.in-Some.ensures) c.late.result.now
    (c.late.ensures h.chart (subst (λ (y : Texts). slice_get y.charts i ≡ Some h.chart) (sym c.args.self.now.same) h.at)) in
    (λ told. parts.1 (c.all_writes.ensures.0 told), λ e. c.all_writes.ensures.1 (parts.0 e))
