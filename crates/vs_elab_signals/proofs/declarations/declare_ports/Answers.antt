use Rattle.std.proofs.Common.{arith}
use Rattle.std.proofs.lemmas.Result.{err_from_is_err_and}
use Rattle.vs_scopes.specs.declared.ports.ModulePort.{ModulePort as FoundPort}
use Rattle.vs_scopes.specs.Declarations.{DeclaredName, declared_by_port}
use Rattle.vs_scopes.specs.scopes_passes.Parts.{read_port}
use Rattle.vs_scopes.proofs.AnswerLemmas.{kept_none, one_more, one_all, one_fault}
use Rattle.vs_elab_signals.specs.signal_passes.Declaring.{DeclaresPorts, DeclaresPortsNot}
use Rattle.vs_elab_signals.proofs.DeclareLemmas.{ports_not_more}
use Rattle.vs_design.specs.vs_logic4.proofs.Basics.{map_twice}
use Rattle.vs_elab_signals.proofs.declarations.declare_ports.Goals as goal

pub loop-port-init : goal.loop-port-init
loop-port-init c s i = kept_none (DeclaresPorts s c.args.names.now c.args.plan.now)

pub returns-in_err-declare_port : goal.returns-in_err-declare_port
returns-in_err-declare_port c s i =
    let p = err_from_is_err_and c.from_residual.result c.from_residual.ensures.1 in
    let f : FoundPort → DeclaredName = λ x. declared_by_port s.known (read_port x) in
    rw (p.1, p.2) (rw (map_twice (declared_by_port s.known) read_port c.args.ports.now) (one_fault f (DeclaresPorts s c.args.names.now c.args.plan.now) (DeclaresPorts s c.loop-port.names c.loop-port.plan) (DeclaresPortsNot s) c.args.ports.now c.loop-port.port-index c.port-item.result c.in_err-declare_port.field-0.0 (omega arith) c.port-item.is (ports_not_more s) (c.loop-port.invariant s i) (c.in_err-declare_port.ensures s i)))

pub loop-port-preserved : goal.loop-port-preserved
loop-port-preserved c s i =
    let f : FoundPort → DeclaredName = λ x. declared_by_port s.known (read_port x) in
    one_more f (DeclaresPorts s c.args.names.now c.args.plan.now) (DeclaresPorts s c.loop-port.names c.loop-port.plan) (DeclaresPorts s c.declare_port.new.names c.declare_port.new.plan) c.args.ports.now c.loop-port.port-index c.port-item.result (omega arith) c.port-item.is (c.loop-port.invariant s i) (c.in_ok-declare_port.ensures s i)

pub returns : goal.returns
returns c s i =
    let f : FoundPort → DeclaredName = λ x. declared_by_port s.known (read_port x) in
    rw (map_twice (declared_by_port s.known) read_port c.args.ports.now) (one_all f (DeclaresPorts s c.args.names.now c.args.plan.now) (DeclaresPorts s c.loop-port.names c.loop-port.plan) c.args.ports.now c.loop-port.port-index (omega arith) (c.loop-port.invariant s i))
