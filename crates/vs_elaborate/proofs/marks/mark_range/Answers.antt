use Rattle.vs_elaborate.proofs.MarkLemmas.{range_marks}
use Rattle.vs_elaborate.proofs.marks.mark_range.Goals as goal

pub returns : goal.returns
returns c = range_marks c.args.signals.now c.args.range c.index-signals-range.result c.args.marks.now c.mark.new.marks c.mark.result c.reach-from.result.0 c.reach-from.result.1 c.requires.within c.reach-from.ensures c.mark.ensures
