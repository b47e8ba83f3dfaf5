use Rattle.vs_program.proofs.Inputs.{front_of}
use Rattle.vs_program.proofs.input.read_first.Goals as goal

pub returns : goal.returns
returns g c = front_of c.args.most (g.R.Read.remaining c.args.input) c.read_to_end.new.buf.items (rw (c.take-kept.ensures.limit, c.take-kept.ensures.inner, c.new-bytes.ensures.items) at c.in_ok-read_to_end.ensures.bytes)
