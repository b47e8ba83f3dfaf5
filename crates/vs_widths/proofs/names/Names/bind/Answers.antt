use Rattle.vs_widths.proofs.NameLemmas.{binds}
use Rattle.vs_widths.proofs.names.Names.bind.Goals as goal

pub returns : goal.returns
returns g c = binds c.self.inside.meanings c.insert.new.self _ c.args.name.now c.args.meaning c.self.view_is c.in_ok-insert.ensures.updates
