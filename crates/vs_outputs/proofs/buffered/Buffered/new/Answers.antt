use Rattle.vs_outputs.proofs.Buffers.{none_gathered}
use Rattle.vs_outputs.proofs.buffered.Buffered.new.Goals as goal

pub returns-clause-bytes : goal.returns-clause-bytes
returns-clause-bytes g c = none_gathered (g.W.Write.contents c.args.writer) c.args.room.items c.requires
