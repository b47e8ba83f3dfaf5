use Rattle.vs_run_steps.proofs.forms.Forms.of.Goals as goal

pub invariant_of-result : goal.invariant_of-result
invariant_of-result c = record { each = λ j a form at there. c.loop-assign.invariant.each j a form at there }
