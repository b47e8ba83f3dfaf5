use Rattle.std.proofs.Common.{refl}
use Rattle.vs_rules_of_processes.proofs.PlaceLemmas.{own_more}
use Rattle.vs_rules_of_processes.proofs.first_slot.FirstSlot.are_own.Goals as goal

pub loop-range-preserved : goal.loop-range-preserved
loop-range-preserved c =
    own_more c.args.self.now.design c.args.self.now.claims c.args.i c.args.ranges.now c.loop-range.range-index _ (c.if-not-is_own.ensures.0 refl) c.loop-range.invariant
