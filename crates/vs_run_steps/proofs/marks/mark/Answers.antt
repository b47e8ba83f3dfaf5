use Rattle.std.proofs.Common.{refl}
use Rattle.vs_run_active.proofs.MarkingLemmas.{marks_set, marks_kept}
use Rattle.vs_run_steps.proofs.marks.mark.Goals as goal

pub returns-in-Some-clause-set : goal.returns-in-Some-clause-set
returns-in-Some-clause-set c = λ within.
    marks_set c.args.marks.now.items c.args.signal c.in-Some.bits.now _ c.in-Some.ensures.value (c.in-Some.ensures.variant.0 refl) c.args.marks.now.ok.0

pub returns-in-Some-clause-others : goal.returns-in-Some-clause-others
returns-in-Some-clause-others c =
    marks_kept c.args.marks.now.items c.args.signal c.in-Some.bits.now _ c.in-Some.ensures.value (c.in-Some.ensures.variant.0 refl) c.args.marks.now.ok.0
