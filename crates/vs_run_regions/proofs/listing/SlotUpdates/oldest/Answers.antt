use Rattle.std.proofs.Common.{◌∙◌, ◌≤◌, length, sym, ap, arith}
use Rattle.vs_run_regions.specs.Updates.{SlotView}
use Rattle.vs_run_regions.proofs.UpdatesLemmas.{firsts_more, left_short, none_first}
use Rattle.vs_run_regions.proofs.listing.SlotUpdates.oldest.Goals as goal

pub loop-number-init : goal.loop-number-init
loop-number-init c = λ n below. absurd (omega (arith, below))

pub loop-number-preserved : goal.loop-number-preserved
loop-number-preserved c = firsts_more _ c.loop-number.number c.loop-number.invariant (sym c.is_first.ensures ∙ c.if-is_first.false)

pub returns : goal.returns
returns c =
    let s = c.self.inside in
    let short : length c.args.self.now.active ≤ length s.active.items = (let l = left_short s.writes.items s.active.items s.made in let same = ap (λ (x : SlotView). length x.active) c.self.view_is in omega (arith, l, same)) in
    none_first c.args.self.now.active (λ n below. c.loop-number.invariant n (omega (arith, below, short, c.loop-number-test.false)))
