use Rattle.vs_eval.proofs.WakingLemmas.{level_wakes}
use Rattle.vs_eval.proofs.waking.wakes.Goals as goal

pub returns-in-Any : goal.returns-in-Any
returns-in-Any c =
    level_wakes c.args.signal c.args.word c.args.before c.args.behind c.args.term c.difference.result c.sees.result
    c.requires c.if-term-signal.false c.in-Any.is c.difference.ensures c.sees.ensures
