use Rattle.std.proofs.Common.{take}
use Rattle.vs_scopes.specs.Ranges.{Sized}
use Rattle.vs_scopes.specs.Declarations.{declared_as}
use Rattle.vs_scopes.specs.scopes_passes.Answers.{Elaborates}
use Rattle.vs_scopes.specs.scopes_passes.Sizes.{width_faults, IsSize}
use Rattle.vs_scopes.proofs.AnswerLemmas.{Kept}
use Rattle.vs_scopes.specs.Scopes.{Scope}
use Rattle.vs_elab_signals.specs.signal_passes.Declaring.{IsAt, Declares}
use Rattle.vs_elab_signals.proofs.declarations.declare_names.Given as goal

abbrev pub invariant-loop-declarator : goal.invariant-loop-declarator
invariant-loop-declarator l = (s : Scope) (z : Sized) → IsAt s l.site → Elaborates (width_faults z.faults) (IsSize z) l.size →
    Kept (Declares s l.fn.to l.fn.plan) (Declares s l.to l.plan) (declared_as s.known l.kind z (take l.declarator-index l.declarators))
