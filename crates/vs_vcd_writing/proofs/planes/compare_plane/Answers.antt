use Rattle.std.proofs.Common.{sym, ◌∙◌, arith}
use Rattle.vs_vcd_writing.proofs.PlanesLemmas.{part_long, part_compared}
use Rattle.vs_vcd_writing.proofs.planes.compare_plane.Goals as goal

pub changed-requires-clause-new_len : goal.changed-requires-clause-new_len
changed-requires-clause-new_len c =
    part_long c.args.new.now c.args.from c.args.to c.requires.order (omega arith) ∙ sym (part_long c.args.old.now c.args.from c.args.to c.requires.order c.requires.within)

pub changed-requires-clause-out_len : goal.changed-requires-clause-out_len
changed-requires-clause-out_len c =
    part_long c.args.flags.now c.args.from c.args.to c.requires.order (omega arith) ∙ sym (part_long c.args.old.now c.args.from c.args.to c.requires.order c.requires.within)

pub returns : goal.returns
returns c =
    part_compared c.args.old.now c.args.new.now c.args.flags.now c.changed.new.out c.args.from c.args.to c.requires.order c.requires.within c.requires.flags_len c.changed.auto.out
    c.changed.ensures
