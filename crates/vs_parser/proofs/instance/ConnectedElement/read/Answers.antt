use Rattle.vs_parser.proofs.InstanceLemmas.{named_answers, ordered_answers}
use Rattle.vs_parser.proofs.instance.ConnectedElement.read.Goals as goal

pub returns-in-Some : goal.returns-in-Some
returns-in-Some c = named_answers c.args.depth c.args.tokens.now _ _ c.in-Some.ensures c.by_name.ensures

pub returns-in-None : goal.returns-in-None
returns-in-None c = ordered_answers c.args.depth c.args.tokens.now _ c.in-None.ensures c.in_order.ensures
