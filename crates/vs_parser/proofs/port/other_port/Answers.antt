use Rattle.vs_parser.specs.declared.port.Said.TheVariants as s
use Rattle.vs_parser.proofs.PortLemmas.{alone_leads}
use Rattle.vs_parser.proofs.port.other_port.Goals as goal

pub returns-in-Nothing-clause-reads : goal.returns-in-Nothing-clause-reads
returns-in-Nothing-clause-reads c = rw c.in-Nothing.is (alone_leads s.Nothing c.args.depth _ _ (rw c.in-Nothing.is at c.port.ensures.reads) c.port.ensures.form)

pub returns-in-Net-clause-reads : goal.returns-in-Net-clause-reads
returns-in-Net-clause-reads c = rw c.in-Net.is (rw c.in-Net.is at c.directed_or_named.ensures.reads)

pub returns-in-Variable-clause-reads : goal.returns-in-Variable-clause-reads
returns-in-Variable-clause-reads c = rw c.in-Variable.is (rw c.in-Variable.is at c.directed_or_named-in-Variable.ensures.reads)
