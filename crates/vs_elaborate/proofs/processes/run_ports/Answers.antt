use Rattle.std.proofs.Common.{arith}
use Rattle.std.proofs.lemmas.Result.{err_from_is_err_and}
use Rattle.vs_elab_statements.specs.vs_scopes.specs.scopes_passes.Parts.{read_port}
use Rattle.vs_elab_statements.specs.vs_scopes.specs.declared.ports.ModulePort.{ModulePort as FoundPort}
use Rattle.vs_elab_statements.specs.Members.{port_setting}
use Rattle.vs_elaborate.specs.passes.Filling.{Runs, RunsNot}
use Rattle.vs_elab_statements.specs.vs_scopes.proofs.AnswerLemmas.{kept_more, kept_all, kept_fault}
use Rattle.vs_elaborate.proofs.FillingLemmas.{runs_not_more}
use Rattle.vs_elaborate.proofs.processes.run_ports.Goals as goal

pub returns-in_err-run_port : goal.returns-in_err-run_port
returns-in_err-run_port c envs s f =
    let p = err_from_is_err_and c.from_residual.result c.from_residual.ensures.1 in
    rw (p.1, p.2) (kept_fault (λ (x : FoundPort). port_setting (read_port x)) (Runs envs s c.args.first c.args.contents.now) (Runs envs s c.args.first c.loop-port.contents) (RunsNot envs s) c.args.ports.now c.loop-port.port-index c.port-item.result c.in_err-run_port.field-0.0 (omega arith) c.port-item.is (runs_not_more envs s) (c.loop-port.invariant envs s f) (c.in_err-run_port.ensures envs s f))

pub returns : goal.returns
returns c envs s f =
    kept_all (λ (x : FoundPort). port_setting (read_port x)) (Runs envs s c.args.first c.args.contents.now) (Runs envs s c.args.first c.loop-port.contents) c.args.ports.now c.loop-port.port-index (omega arith) (c.loop-port.invariant envs s f)

pub loop-port-preserved : goal.loop-port-preserved
loop-port-preserved c envs s f =
    kept_more (λ (x : FoundPort). port_setting (read_port x)) (Runs envs s c.args.first c.args.contents.now) (Runs envs s c.args.first c.loop-port.contents) (Runs envs s c.args.first c.run_port.new.contents) c.args.ports.now c.loop-port.port-index c.port-item.result (omega arith) c.port-item.is (c.loop-port.invariant envs s f) (c.in_ok-run_port.ensures envs s f)
