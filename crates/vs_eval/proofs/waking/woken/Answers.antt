use Rattle.std.proofs.Common.{◌∙◌, sym}
use Rattle.vs_eval.proofs.WakingLemmas.{equal_wakes_none}
use Rattle.vs_eval.proofs.waking.woken.Goals as goal

pub returns-then-eq : goal.returns-then-eq
returns-then-eq c =
    equal_wakes_none c.args.terms.now c.args.signal c.args.word c.args.before c.args.behind (sym c.eq.ensures ∙ c.if-eq.true)
