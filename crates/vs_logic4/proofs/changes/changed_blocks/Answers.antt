use Rattle.std.proofs.Common.{◌≡◌, ◌+◌, ◌≤◌, length, arith}
use Rattle.vs_logic4.proofs.Lanes.{block_stored}
use Rattle.vs_logic4.proofs.changes.changed_blocks.Goals as goal

pub loop-at-preserved : goal.loop-at-preserved
loop-at-preserved c =
    let room : c.loop-at.at + 8 ≤ length c.args.old.now = omega arith in
    let long : length c.loop-at.out ≡ length c.args.old.now = omega arith in
    (room, block_stored c.loop-at.out c.args.old.now c.args.new.now c.changed_block.result c.loop-at.at c.requires.new_len long room c.changed_block.ensures c.loop-at.invariant.1)
