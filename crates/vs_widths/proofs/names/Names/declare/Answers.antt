use Rattle.vs_widths.proofs.NameLemmas.{declares_fresh, declares_known}
use Rattle.vs_widths.proofs.names.Names.declare.Goals as goal

pub returns-then-contains_key : goal.returns-then-contains_key
returns-then-contains_key g c = declares_known c.self.inside.meanings _ c.args.name.now c.args.meaning c.self.view_is c.if-contains_key.ensures

pub returns : goal.returns
returns g c = declares_fresh c.self.inside.meanings c.insert.new.self _ c.args.name.now c.args.meaning c.self.view_is c.in_ok-insert.ensures.updates c.if-contains_key.ensures
