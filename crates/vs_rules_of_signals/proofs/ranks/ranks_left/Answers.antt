use Rattle.std.proofs.Common.{refl, sym, subst}
use Rattle.vs_rules_of_signals.specs.Ranks.{Rises}
use Rattle.vs_rules_of_signals.proofs.RankLemmas.{none_rises}
use Rattle.vs_rules_of_signals.proofs.ranks.ranks_left.Goals as goal

pub returns-then-rises : goal.returns-then-rises
returns-then-rises c = subst (Rises c.args.tables.now) c.deref-2.ensures.value (c.if-rises.ensures.0 refl)

pub returns : goal.returns
returns c = subst (Rises c.args.tables.now) (sym c.new-none.ensures.items) (none_rises c.args.tables.now)
