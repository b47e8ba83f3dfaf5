use Rattle.std.proofs.Common.{drop}
use Rattle.vs_outputs.proofs.Buffers.{none_left, passed}
use Rattle.vs_outputs.proofs.buffered.Buffered.take_piece.Goals as goal

pub returns-then-is_empty-clause-bytes : goal.returns-then-is_empty-clause-bytes
returns-then-is_empty-clause-bytes g c =
    let held = c.make_room.new.self in
    passed _ _ _ (drop held.taken held.gathered.items) c.write.result c.args.piece.now c.in_ok-make_room.ensures.bytes
    (none_left held.gathered.items _ held.taken c.is_empty.result held.gathered.ok.0 c.is_empty.ensures c.if-is_empty.true) c.write.ensures.bytes
