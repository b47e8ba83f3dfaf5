use Rattle.std.proofs.Common.{◌≡◌, ℕ, ◌<◌, length, sym, ◌∙◌, ap, subst}
use Rattle.vs_design.specs.Parts.{Parts}
use Rattle.vs_slots.proofs.KeptLemmas.{writes_are}
use Rattle.vs_slots.proofs.slots.write_slots.Goals as goal

pub returns : goal.returns
returns c =
    let f = c.args.facts.now in
    let told : length c.signals.result.now ≡ length f.design.signals = ap length c.signals.ensures ∙ ap (λ (d : Parts). length d.signals) c.design.ensures in (
      c.in_ok-table.ensures.len ∙ told,
      λ u r within.
          let both = c.in_ok-table.ensures.exact u r (subst (λ (n : ℕ). u < n) (sym told) within) in
          let are = writes_are f c.args.delays.now c.args.edges.now u r c.maps.ensures c.requires in
          (λ x. are.0 (both.0 x), λ y. both.1 (are.1 y)),
    )
