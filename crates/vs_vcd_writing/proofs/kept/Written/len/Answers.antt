use Rattle.std.proofs.Common.{arith}
use Rattle.vs_vcd_writing.proofs.WordLemmas.{length_of_words}
use Rattle.vs_vcd_writing.proofs.kept.Written.len.Goals as goal

pub returns : goal.returns
returns c = omega (arith, c.len.ensures, length_of_words c.self.inside.codes.items c.self.inside.words c.args.self.now c.self.invariant c.self.view_is, c.self.invariant)
