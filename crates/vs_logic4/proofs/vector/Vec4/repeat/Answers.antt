use Rattle.vs_logic4.proofs.Parts.{replicated_width, replication_is}
use Rattle.vs_logic4.proofs.vector.Vec4.repeat.Goals as goal

pub low_ones-requires-clause-most : goal.low_ones-requires-clause-most
low_ones-requires-clause-most c = replicated_width c.self.invariant c.self.view_is c.args.count c.requires.most

pub invariant_of-result : goal.invariant_of-result
invariant_of-result c =
    rw (c.low_ones.ensures, c.low_ones-2.ensures)
    (replication_is c.self.invariant c.self.view_is c.args.count c.requires.some c.requires.most).0

pub returns : goal.returns
returns c =
    rw (c.low_ones.ensures, c.low_ones-2.ensures)
    (replication_is c.self.invariant c.self.view_is c.args.count c.requires.some c.requires.most).1
