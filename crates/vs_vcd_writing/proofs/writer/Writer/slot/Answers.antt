use Rattle.std.proofs.Common.{true, []}
use Rattle.vs_vcd_writing.proofs.ProgressLemmas.{vcd_slots-push, slot_written, slot_covered, piece_written, all_seen}
use Rattle.vs_vcd_writing.proofs.writer.Writer.slot.Goals as goal

pub returns-clause-written : goal.returns-clause-written
returns-clause-written g c =
    slot_written c.write_next.result c.args.self.now _ true [] c.args.time c.args.store.now
    (all_seen [] _ c.args.store.now) c.write_next.ensures.follows

pub returns-clause-bytes : goal.returns-clause-bytes
returns-clause-bytes g c =
    piece_written c.write_next.result _ _ c.args.self.now true [] c.args.time c.args.store.now
    (all_seen [] _ c.args.store.now) c.write_next.ensures.bytes

pub returns-clause-covered : goal.returns-clause-covered
returns-clause-covered g c =
    slot_covered c.write_next.result c.args.self.now _ true [] c.args.time c.args.store.now
    (all_seen [] _ c.args.store.now) c.write_next.ensures.follows

pub returns-clause-pieces : goal.returns-clause-pieces
returns-clause-pieces g c = vcd_slots-push
