use Rattle.std.proofs.Common.{take}
use Rattle.vs_scopes.specs.Declarations.{bound_to}
use Rattle.vs_scopes.specs.scopes_passes.Answers.{borrowed}
use Rattle.vs_elab_signals.specs.signal_passes.Naming.{BoundAfter}
use Rattle.vs_scopes.proofs.AnswerLemmas.{Kept}
use Rattle.vs_elab_signals.proofs.naming.bind_all.Given as goal

abbrev pub invariant-loop-name : goal.invariant-loop-name
invariant-loop-name l = Kept (BoundAfter l.fn.names) (BoundAfter l.names) (bound_to l.binding (borrowed (take l.name-index l.list)))
