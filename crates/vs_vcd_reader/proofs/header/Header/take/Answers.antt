use Rattle.vs_vcd_reader.proofs.HeaderLemmas.{taken_all}
use Rattle.vs_vcd_reader.proofs.header.Header.take.Goals as goal

pub returns : goal.returns
returns c =
    taken_all c.args.self.now _ c.args.declaration c.requires.kept c.requires.deep c.requires.fits c.requires.good c.in_ok-push.ensures.items c.in_ok-push_width.ensures
    c.depth_after-self.ensures c.own_after-self.ensures
