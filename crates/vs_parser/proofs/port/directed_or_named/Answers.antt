use Rattle.vs_parser.proofs.PortLemmas.{alone_leads, told_first, named_second}
use Rattle.vs_parser.proofs.port.directed_or_named.Goals as goal

pub returns-in-Some-clause-reads : goal.returns-in-Some-clause-reads
returns-in-Some-clause-reads c = told_first c.args.said c.args.depth c.in-Some.direction _ _ _ c.in-Some.ensures (c.directed_port.ensures.reads c.args.said)

pub returns-in-None-clause-reads : goal.returns-in-None-clause-reads
returns-in-None-clause-reads c = named_second c.args.said c.args.depth _ _ c.in-None.ensures (alone_leads c.args.said c.args.depth _ _ c.port.ensures.reads c.port.ensures.form)
