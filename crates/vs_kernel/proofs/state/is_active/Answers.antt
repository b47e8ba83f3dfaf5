use Rattle.std.proofs.Common.{◌∙◌, refl, sym, subst}
use Rattle.std.proofs.lemmas.Bool.{and_parts, false≢true}
use Rattle.vs_kernel.specs.Running.{IsChoice}
use Rattle.vs_kernel.proofs.state.is_active.Goals as goal

pub returns-in-Step : goal.returns-in-Step
returns-in-Step g c = λ on. subst (IsChoice c.args.run.now) (sym c.in-Step.is) ((refl, sym c.is_going.ensures ∙ on), tt)

pub returns-in-Evaluate : goal.returns-in-Evaluate
returns-in-Evaluate g c = λ on. subst (IsChoice c.args.run.now) (sym c.in-Evaluate.is) ((refl, sym c.needs.ensures ∙ on), tt)

pub returns-in-Propagate : goal.returns-in-Propagate
returns-in-Propagate g c = λ on. subst (IsChoice c.args.run.now) (sym c.in-Propagate.is) ((refl, sym c.is_pending.ensures ∙ on), tt)

pub returns-in-Group : goal.returns-in-Group
returns-in-Group g c = λ on. absurd (false≢true on)

pub returns-in-Make : goal.returns-in-Make
returns-in-Make g c = λ on. let both = and_parts _ _ (sym c.is_first.ensures ∙ on) in subst (IsChoice c.args.run.now) (sym c.in-Make.is) ((both.0, both.1), tt)
