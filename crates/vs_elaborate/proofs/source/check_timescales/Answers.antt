use Rattle.std.proofs.Common.{sym, ◌∙◌}
use Rattle.vs_elaborate.proofs.SoundLemmas.{timescales_told}
use Rattle.vs_elaborate.proofs.source.check_timescales.Goals as goal

pub returns-then-has_other_timescale-clause-other : goal.returns-then-has_other_timescale-clause-other
returns-then-has_other_timescale-clause-other c = timescales_told c.args.source.now c.args.top.now c.fault_at.result (sym c.has_other_timescale.ensures ∙ c.if-has_other_timescale.true) c.fault_at.ensures
