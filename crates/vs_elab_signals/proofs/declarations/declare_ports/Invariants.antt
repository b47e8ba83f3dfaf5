use Rattle.std.proofs.Common.{map, take}
use Rattle.vs_scopes.specs.Declarations.{declared_by_port}
use Rattle.vs_scopes.specs.scopes_passes.Parts.{read_port}
use Rattle.vs_scopes.proofs.AnswerLemmas.{Kept}
use Rattle.vs_scopes.specs.Scopes.{Scope}
use Rattle.vs_elab_signals.specs.signal_passes.Declaring.{IsAt, DeclaresPorts}
use Rattle.vs_elab_signals.proofs.declarations.declare_ports.Given as goal

abbrev pub invariant-loop-port : goal.invariant-loop-port
invariant-loop-port l = (s : Scope) → IsAt s l.site →
    Kept (DeclaresPorts s l.fn.names l.fn.plan) (DeclaresPorts s l.names l.plan) (map (λ x. declared_by_port s.known (read_port x)) (take l.port-index l.ports))
