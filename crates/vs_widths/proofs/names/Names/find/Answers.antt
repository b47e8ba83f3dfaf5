use Rattle.vs_widths.proofs.NameLemmas.{finds}
use Rattle.vs_widths.proofs.names.Names.find.Goals as goal

pub returns-in-Some : goal.returns-in-Some
returns-in-Some g c = finds c.self.inside.meanings _ c.args.name.now _ c.self.view_is c.in-Some.ensures.value

pub returns-in-None : goal.returns-in-None
returns-in-None g c = finds c.self.inside.meanings _ c.args.name.now _ c.self.view_is c.in-None.ensures.value
