use Rattle.std.proofs.Common.{◌≡◌, ℕ, ◌<◌, None, length, get_or, sym, ◌∙◌, ap, subst}
use Rattle.vs_design.specs.Parts.{Parts}
use Rattle.vs_slots.proofs.KeptLemmas.{all_turned, firing_are}
use Rattle.vs_slots.proofs.roots.table_for.Goals as goal

pub returns : goal.returns
returns c root r within =
    let f = c.args.facts.now in
    let o = get_or c.args.clocks.now root None in
    let told : length c.signals.result.now ≡ length f.design.signals = ap length c.signals.ensures ∙ ap (λ (d : Parts). length d.signals) c.design.ensures in
    let both = c.in_ok-table.ensures.exact root r (subst (λ (n : ℕ). root < n) (sym told) within) in
    let are = firing_are f c.args.runs.now o root c.args.edge r c.maps.ensures c.requires.runs
    (c.requires.clocks.1 root (subst (λ (n : ℕ). root < n) (sym c.requires.clocks.0) within)) in
    (λ x. let y = both.0 x in (y.0, are.0 y.1), λ y. both.1 (y.0, are.1 y.1))

pub invariant_of-roots : goal.invariant_of-roots
invariant_of-roots c = record { turned = all_turned c.args.facts.now c.args.clocks.now c.requires.clocks }
