use Rattle.vs_outputs.proofs.Buffers.{whole_out}
use Rattle.vs_outputs.proofs.buffered.Buffered.write_out.Goals as goal

pub returns-clause-whole : goal.returns-clause-whole
returns-clause-whole g c =
    let new = c.write_gathered.new.self in
    whole_out c.write_gathered.result (g.W.Write.contents new.writer) new.taken new.gathered.items c.write_gathered.ensures.all c.write_gathered.ensures.begun
