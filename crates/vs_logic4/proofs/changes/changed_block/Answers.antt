use Rattle.std.proofs.Common.{not, eqb, refl, rules}
use Rattle.std.proofs.lemmas.Simd.{length-chunk}
use Rattle.vs_logic4.proofs.Lanes.{changed_lanes, top_of_lane, Each1-chosen}
use Rattle.vs_logic4.proofs.changes.changed_block.Goals as goal

pub overflow_cast-result : goal.overflow_cast-result
overflow_cast-result c = Each1-chosen _ (search rules) (search rules) 8 _

pub returns : goal.returns
returns c =
    changed_lanes _ _ refl refl (λ a b. top_of_lane (not (eqb a b))) 8 _ _ (length-chunk c.args.at 8 c.args.old.now c.requires.old_len) (length-chunk c.args.at 8 c.args.new.now c.requires.new_len)
