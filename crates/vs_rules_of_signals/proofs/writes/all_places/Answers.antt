use Rattle.std.proofs.Common.{◌+◌, ℕ, [], ◌∷◌, length, ap, ◌∙◌, arith}
use Rattle.std.proofs.lemmas.List.{length-append}
use Rattle.vs_design.specs.Parts.{Parts}
use Rattle.vs_rules_of_signals.proofs.WriteLemmas.{more_placed, none_rows}
use Rattle.vs_rules_of_signals.proofs.writes.all_places.Goals as goal

pub loop-v-init : goal.loop-v-init
loop-v-init c = none_rows c.args.facts.now c.none-table.result c.none-table.ensures

pub places_of-requires : goal.places_of-requires
places_of-requires c = omega (arith, c.loop-v-test.true, ap length (c.signals-v-end.ensures ∙ ap (λ (d : Parts). d.signals) c.design.ensures))

pub loop-v-preserved : goal.loop-v-preserved
loop-v-preserved c =
    let e = c.in_ok-push.ensures in (
      ap length e ∙ length-append c.loop-v.table (c.in_ok-places.places.items ∷ []) ∙ ap (λ (n : ℕ). n + 1) c.loop-v.invariant.0,
      more_placed c.args.facts.now c.loop-v.table c.push.new.self c.loop-v.v c.in_ok-places.places.items c.loop-v.invariant.0 e c.loop-v.invariant.1 c.in_ok-places.ensures,
    )

pub returns : goal.returns
returns c = c.loop-v.invariant.1
