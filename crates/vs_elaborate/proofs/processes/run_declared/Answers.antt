use Rattle.std.proofs.Common.{arith}
use Rattle.std.proofs.lemmas.Result.{err_from_is_err_and}
use Rattle.vs_syntax.specs.declared.tree.Declarator.{Declarator}
use Rattle.vs_elab_statements.specs.Members.{setting}
use Rattle.vs_elaborate.specs.passes.Filling.{Runs, RunsNot}
use Rattle.vs_elab_statements.specs.vs_scopes.proofs.AnswerLemmas.{kept_more, kept_all, kept_fault}
use Rattle.vs_elaborate.proofs.FillingLemmas.{runs_not_more}
use Rattle.vs_elaborate.proofs.processes.run_declared.Goals as goal

pub returns-in_err-run_setting : goal.returns-in_err-run_setting
returns-in_err-run_setting c envs s f =
    let p = err_from_is_err_and c.from_residual.result c.from_residual.ensures.1 in
    rw (p.1, p.2) (kept_fault (λ (d : Declarator). setting d.name.items d.value) (Runs envs s c.args.first c.args.contents.now) (Runs envs s c.args.first c.loop-declarator.contents) (RunsNot envs s) c.args.declarators.now c.loop-declarator.declarator-index c.declarator-item.result c.in_err-run_setting.field-0.0 (omega arith) c.declarator-item.is (runs_not_more envs s) (c.loop-declarator.invariant envs s f) (c.in_err-run_setting.ensures envs s f))

pub returns : goal.returns
returns c envs s f =
    kept_all (λ (d : Declarator). setting d.name.items d.value) (Runs envs s c.args.first c.args.contents.now) (Runs envs s c.args.first c.loop-declarator.contents) c.args.declarators.now c.loop-declarator.declarator-index (omega arith) (c.loop-declarator.invariant envs s f)

pub loop-declarator-preserved : goal.loop-declarator-preserved
loop-declarator-preserved c envs s f =
    kept_more (λ (d : Declarator). setting d.name.items d.value) (Runs envs s c.args.first c.args.contents.now) (Runs envs s c.args.first c.loop-declarator.contents) (Runs envs s c.args.first c.run_setting.new.contents) c.args.declarators.now c.loop-declarator.declarator-index c.declarator-item.result (omega arith) c.declarator-item.is (c.loop-declarator.invariant envs s f) (c.in_ok-run_setting.ensures envs s f)
