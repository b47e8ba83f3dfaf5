use Rattle.std.proofs.Common.{ℕ}
use Rattle.vs_claims.proofs.RootLemmas.{none_more as more_below}
use Rattle.vs_rules_of_starts.specs.Beginnings.{GivesBit}
use Rattle.vs_rules_of_starts.proofs.BeginningLemmas.{no_place, not_told}
use Rattle.vs_rules_of_starts.proofs.begins.gives_in_word.Goals as goal

pub loop-place-preserved : goal.loop-place-preserved
loop-place-preserved c =
    more_below (λ (k : ℕ). GivesBit c.args.design.now c.args.named.now c.args.target.now c.args.value.now (record { signal = c.args.lowest.signal; word = c.args.lowest.word; place = k }))
    c.loop-place.place c.loop-place.invariant (not_told c.in_ok-gives_bit.field-0 _ c.if-branch.false c.in_ok-gives_bit.ensures)

pub returns : goal.returns
returns c =
    no_place c.args.design.now c.args.named.now c.args.target.now c.args.value.now c.args.lowest.signal c.args.lowest.word c.args.width c.loop-place.place c.loop-place-test.false
    c.loop-place.invariant
