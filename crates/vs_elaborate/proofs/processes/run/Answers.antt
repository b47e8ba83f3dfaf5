use Rattle.std.proofs.Common.{refl, arith}
use Rattle.vs_elaborate.proofs.FillingLemmas.{runs_push, runs_last}
use Rattle.vs_elaborate.proofs.processes.run.Goals as goal

pub returns-in_ok-push-in-Ok : goal.returns-in_ok-push-in-Ok
returns-in_ok-push-in-Ok c envs s b f k h start done r =
    let body = rw c.in-Ok.is at h in
    runs_push envs s c.args.first c.saturating_sub-number.result c.args.contents.now _ start done b _ c.in_ok-push-in-Ok.ensures.items refl (omega (arith, c.saturating_sub-number.ensures, c.len.ensures, c.args.contents.now.processes.ok.0)) (rw (c.deref.ensures.value, f.path) at c.in_ok-name-in-Ok.ensures) k body r

pub returns-in-Err : goal.returns-in-Err
returns-in-Err c envs s b f k h start done r = runs_last envs s start done b c.process_fault.result (c.process_fault.ensures envs s b f (rw c.in-Err.is at h))
