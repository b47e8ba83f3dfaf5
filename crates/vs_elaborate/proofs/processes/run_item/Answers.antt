use Rattle.std.proofs.Common.{refl}
use Rattle.vs_elab_statements.specs.Members.{runs, repeats}
use Rattle.vs_elaborate.proofs.FillingLemmas.{quiet_item, runs_still}
use Rattle.vs_elaborate.proofs.processes.run_item.Goals as goal

pub returns-in-Reg : goal.returns-in-Reg
returns-in-Reg c envs s f = rw c.in-Reg.is (rw c.deref.ensures.value at (c.run_declared.ensures envs s f))

pub returns-in-Initial : goal.returns-in-Initial
returns-in-Initial c envs s f = rw c.in-Initial.is (c.run.ensures envs s (runs c.in-Initial.s) f refl (c.run_body-body.ensures.answer envs s.path f.view))

pub returns-in-Always : goal.returns-in-Always
returns-in-Always c envs s f = rw c.in-Always.is (c.run-in-Always.ensures envs s (repeats c.in-Always.s) f refl (c.repeat_body-body.ensures.answer envs s.path f.view))

pub returns-in-Integer : goal.returns-in-Integer
returns-in-Integer c envs s f = rw c.in-Integer.is (rw c.deref-in-Integer.ensures.value at (c.run_declared-in-Integer.ensures envs s f))

pub returns-in_default : goal.returns-in_default
returns-in_default c envs s f start done h =
    runs_still envs s c.args.first c.args.contents.now start done _ (quiet_item c.args.item.now c.in_default.not-Reg c.in_default.not-Integer c.in_default.not-Initial c.in_default.not-Always) h
