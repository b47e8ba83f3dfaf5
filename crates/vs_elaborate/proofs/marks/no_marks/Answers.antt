use Rattle.vs_elaborate.proofs.MarkLemmas.{marks_none}
use Rattle.vs_elaborate.proofs.marks.no_marks.Goals as goal

pub returns : goal.returns
returns c = marks_none c.args.signals.now c.in_ok-marks.marks.items (c.in_ok-marks.ensures.items_if_clones_equal (λ y e. e))
