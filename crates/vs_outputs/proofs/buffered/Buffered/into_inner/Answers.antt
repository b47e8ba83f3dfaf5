use Rattle.std.proofs.Common.{drop}
use Rattle.std.proofs.KnownBytes.{Keeps-refl}
use Rattle.vs_outputs.specs.Buffers.{all_bytes}
use Rattle.vs_outputs.proofs.buffered.Buffered.into_inner.Goals as goal

pub returns-clause-lost : goal.returns-clause-lost
returns-clause-lost g c = (drop c.args.self.taken c.args.self.gathered.items, Keeps-refl (all_bytes g.W.Write.contents c.args.self))
