use Rattle.std.proofs.Common.{sym, subst}
use Rattle.vs_rules_of_signals.specs.Ranks.{Rises}
use Rattle.vs_rules_of_signals.proofs.RankLemmas.{none_rises}
use Rattle.vs_rules_of_signals.proofs.ranks.Ranks.none.Goals as goal

pub returns : goal.returns
returns c t = (subst (Rises t) (sym c.new-by_text.ensures.items) (none_rises t), subst (Rises t) (sym c.new-against_text.ensures.items) (none_rises t))
